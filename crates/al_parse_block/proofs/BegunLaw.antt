-- What stands behind a parenthesis that opens, where a type or an expression may stand, keeps the law.
use Rattle.std.proofs.Common.{◌≡◌, ◌≢◌, ℕ, zero, suc, pred, ◌+◌, ◌<◌, ◌≤◌, ◌==◌, max, nat_lt, Bool, true, false, if◌then◌else◌, ◌&&◌, List, [], ◌∷◌, ◌++◌, length, Option, Some, None, Ok, Err, refl, sym, ap, ap₂, ◌∙◌, subst, arith, append_assoc, append-nil, length-append}
use Rattle.std.proofs.lemmas.Grind.{common_steps}
use Rattle.al_base.specs.declared.place.Place.{Place}
use Rattle.al_lex.specs.declared.kind.TokenKind.{TokenKind}
use Rattle.al_lex.specs.declared.kind.TokenKind.TheVariants as k
use Rattle.al_lex.specs.declared.token.Token.{Token}
use Rattle.al_tree.specs.Words.{start}
use Rattle.al_tree.specs.Types.{Leaves, IsBase, basic, named, instance, tuple, channel, buffered, IsStarred, base, star, IsTypeTree, plain, array, IsTypes, IsParts, parts}
use Rattle.al_tree.specs.Types as rules
use Rattle.al_tree.specs.Expressions.{IsUnary, IsAsg, IsAsgs, prim, post, cast, one}
use Rattle.al_tree.specs.Reading.{Outcome, Parser, and_then, ◌>>=◌, pure, refuse, kind, same_kind, looks, peek, take_if, expect}
use Rattle.al_tree.specs.declared.cursor.ParseError.TheVariants.{NoMemory, Stuck, Deep}
use Rattle.al_tree.specs.declared.type_tree.TypeTree.{TypeTree}
use Rattle.al_tree.specs.declared.expression.Expr.{Expr}
use Rattle.al_tree.specs.declared.expression.Expr.TheVariants as e
use Rattle.al_tree.proofs.Law.{World, Above, Family, Lang, Any, head, Has, Law, Verdict, ReadAt, StuckAt, DeepAt, token, bind, map_law, pure_law, refuse_law, choose, weaken, anywhere, look, kind_local, take_law, expect_law, all_turns, relang, view_law, some_pred}
use Rattle.al_tree.proofs.Verdicts.{world}
use Rattle.al_parse_type.specs.declared.part.ReadBase.{ReadBase}
use Rattle.al_parse_type.specs.Parse.{sees_type}
use Rattle.al_parse_type.specs.Within.{type_within, starred_within, tuple_within, type_behind}
use Rattle.al_parse_type.proofs.BoundLaw.{always, kind_is, first_kind, lt_grows, lt_of, and_parts, lower, lower_above}
use Rattle.al_parse_type.proofs.TypeLaw.{LType, LBase, type_has, type_local}
use Rattle.al_parse_type.proofs.BaseWhole.{IsStarredType, LStarredType, type_within_law, starred_within_law, tuple_within_law, type_behind_law}
use Rattle.al_parse_type.proofs.Parts.{complete_types}
use Rattle.al_parse_expr.specs.Parse.{Sized, Listed, operand, closed, more_from, post_from, within as expr_within}
use Rattle.al_parse_expr.specs.Within.{assignment_within, operand_within, after_first, after_unary}
use Rattle.al_parse_expr.proofs.Begins.{ends_closed, unary_of, one_at, one_tree, one_asg}
use Rattle.al_parse_expr.proofs.ExprLaw.{LPost, LAsg, within_law, more_law, keeps_asgs, operand_of, closed_is, posts_law}
use Rattle.al_parse_block.specs.Begun as parse
use Rattle.al_parse_block.specs.Begun.{SizedType, SizedBegun, leaves_off, castable, first_type, begun}
use Rattle.al_parse_block.specs.declared.part.Begun.{Begun}
use Rattle.al_parse_block.specs.declared.part.Begun.TheVariants as bg
use Rattle.al_parse_block.proofs.SimpleLaw.{lowered, asgs, unary_behind_law}

-- ---- lists

-- two cuts of one list whose rests are of one length
pub same_cut : (u v r s : List Token) → u ++ r ≡ v ++ s → length r ≡ length s → (u ≡ v) × (r ≡ s)
same_cut [] [] r s e n = (refl, e)
same_cut [] (t ∷ v) r s e n = absurd (omega (arith, ap length e, n, length-append v s))
same_cut (t ∷ u) [] r s e n = absurd (omega (arith, ap length e, n, length-append u r))
same_cut (t ∷ u) (o ∷ v) r s e n =
    let h : t ≡ o = cc in
    let l : u ++ r ≡ v ++ s = cc in
    let q = same_cut u v r s l n in
    (ap₂ (λ a b. a ∷ b) h q.0, q.1)

-- the longer of two fronts goes on from the shorter one
pub record Between (u v r s : List Token) : Type 0 where
  pub more : List Token
  pub cut : v ≡ u ++ more
  pub rest : r ≡ more ++ s

pub between : (u v r s : List Token) → u ++ r ≡ v ++ s → length s ≤ length r → Between u v r s
between [] v r s e n = record { more = v; cut = refl; rest = e }
between (t ∷ u) [] r s e n = absurd (omega (arith, ap length e, n, length-append u r))
between (t ∷ u) (o ∷ v) r s e n =
    let h : t ≡ o = cc in
    let l : u ++ r ≡ v ++ s = cc in
    let q = between u v r s l n in
    record { more = q.more; cut = ap₂ (λ a b. a ∷ b) (sym h) q.cut; rest = q.rest }

equal_is : (a b : ℕ) → (a == b) ≡ true → a ≡ b
equal_is a b h = grind arith

equal_no : (a b : ℕ) → (a ≡ b → ⊥) → (a == b) ≡ false
equal_no a b h = go (a == b) refl
  where
    go : (c : Bool) → (a == b) ≡ c → c ≡ false
    go true e = absurd (h (equal_is a b e))
    go false e = refl

equal_yes : (a : ℕ) → (a == a) ≡ true
equal_yes a = grind arith

least_of : (a b : ℕ) → nat_lt a b ≡ false → b ≤ a
least_of a b h = grind (arith, common_steps)

-- what begins with a list of at least one token begins as it does
head_of : (m : List Token) (a b : List Token) → 0 < length m → head (m ++ a) ≡ head (m ++ b)
head_of [] a b h = absurd (omega arith)
head_of (t ∷ m) a b h = refl

-- ---- the types of casts are types

module _ (leaves : Leaves) (types : List ℕ) where
  mutual
    bare_base : {takes : Bool} {u : List Token} {x : TypeTree} {h : ℕ} → IsBase leaves types false takes u x h → IsBase leaves types true takes u x h
    bare_base (basic t c) = basic t c
    bare_base (named t c) = named t c
    bare_base (instance t o c tc oc a ec) = instance t o c tc oc (bare_types a) ec
    bare_base (tuple w o c wc oc a ec) = tuple w o c wc oc (bare_parts a) ec
    bare_base (channel w o c wc oc a ec) = channel w o c wc oc a ec
    bare_base (buffered w o c p q wc oc a ec pc n qc) = buffered w o c p q wc oc a ec pc n qc

    bare_starred : {takes : Bool} {u : List Token} {x : TypeTree} {h : ℕ} → IsStarred leaves types false takes u x h → IsStarred leaves types true takes u x h
    bare_starred (base d) = base (bare_base d)
    bare_starred (star t d c) = star t (bare_starred d) c

    bare_type : {u : List Token} {x : TypeTree} {h : ℕ} → IsTypeTree leaves types false u x h → IsTypeTree leaves types true u x h
    bare_type (plain d) = plain (bare_starred d)
    bare_type (array d q) = array (bare_starred d) q

    bare_types : {u : List Token} {xs : List TypeTree} {h : ℕ} → IsTypes leaves types false u xs h → IsTypes leaves types true u xs h
    bare_types (rules.one d) = rules.one (bare_type d)
    bare_types (rules.more t l c d) = rules.more t (bare_types l) c (bare_type d)

    bare_parts : {u : List Token} {xs : List TypeTree} {h : ℕ} → IsParts leaves types false u xs h → IsParts leaves types true u xs h
    bare_parts (parts t l c d) = parts t (bare_types l) c (bare_type d)

  pub as_type : {u : List Token} {x : TypeTree} {h : ℕ} → IsStarredType leaves types u x h → IsTypeTree leaves types true u x h
  as_type c = plain (bare_starred c.is)

  abbrev P : Family SizedType
  P w = type_within leaves types w.turns w.depth

  abbrev Q : ℕ → Family SizedType
  Q n w = starred_within leaves types w.turns n

  whole_type : (u : List Token) (x : TypeTree) (h : ℕ) → IsTypeTree leaves types true u x h → (F n : ℕ) → h ≤ n → length u < F → P (world F n) u ≡ Ok ((x, h), [])
  whole_type u x h d F n low short = ap (P (world F n)) (sym (append-nil u)) ∙ complete_types leaves types u [] x h d tt F n low (omega (arith, ap length (append-nil u)))

  -- one list is one type
  pub same_type : (u : List Token) (x y : TypeTree) (h i : ℕ) → IsTypeTree leaves types true u x h → IsTypeTree leaves types true u y i → (x ≡ y) × (h ≡ i)
  same_type u x y h i a b =
      let p1 = whole_type u x h a (length u + 1) (max h i) (omega arith) (omega arith) in
      let p2 = whole_type u y i b (length u + 1) (max h i) (omega arith) (omega arith) in
      let same : ◌≡◌ {A = Outcome SizedType} (Ok ((x, h), [])) (Ok ((y, i), [])) = sym p1 ∙ p2 in
      let q : ◌≡◌ {A = SizedType × List Token} ((x, h), []) ((y, i), []) = cc in
      (ap (λ (o : SizedType × List Token). o.0.0) q, ap (λ (o : SizedType × List Token). o.0.1) q)

  -- ---- languages

  abbrev pub BegunIs : List Token → Begun → ℕ → Type 0
  BegunIs u (bg.Type x c) h = IsTypeTree leaves types true u x h × (c ≡ true → IsStarredType leaves types u x h)
  BegunIs u (bg.Value x) h = IsAsg leaves types u x h

  abbrev pub LBegun : Lang SizedBegun
  LBegun u x = BegunIs u x.0 x.1

  begun_has : Has LBegun
  begun_has = record { word = one_at leaves types (start []) ∷ []; value = (bg.Value (one_tree leaves types (start [])), 1); is = one_asg leaves types (start []) }

  no_cast : {u : List Token} {x : SizedType} → LType leaves types true u x → LBegun u (bg.Type x.0 false, x.1)
  no_cast a = (a, λ h. absurd (let f : ⊥ = cc in f))

  -- ---- a type, and whether it may stand in a cast

  module _ (w : World) (fits : w.fuel ≤ w.turns) (ts : List Token) (short : length ts < w.fuel) (x : SizedType) (r : List Token) (v : ReadAt w P (LType leaves types true) ts x r) where
    -- the world of the second reading
    abbrev wq : World
    wq = record { fuel = w.fuel; turns = w.turns; depth = x.1 }

    q_verdict : Verdict wq (λ w. starred_within leaves types w.turns w.depth) (LStarredType leaves types) ts (Q x.1 w ts)
    q_verdict = (starred_within_law leaves types (Unit {0}) wq Any (λ _. fits)).run tt ts tt short

    -- no type of a cast goes on behind what was read
    beyond : (more : List Token) (y : TypeTree) (i : ℕ) → 0 < length more → head more ≡ head r → IsStarredType leaves types (v.used ++ more) y i → ⊥
    beyond more y i some h a =
        let F = w.fuel + w.turns + length (v.used ++ more) + 1 in
        let n = max w.depth i in
        let yes = whole_type (v.used ++ more) y i (as_type a) F n (omega arith) (omega arith) in
        let no = v.again (world F n) (record { fuel = omega arith; turns = omega arith; depth = omega arith }) more h in
        let both : ◌≡◌ {A = Outcome SizedType} (Ok (x, more)) (Ok ((y, i), [])) = sym no ∙ yes in
        let pairs : ◌≡◌ {A = SizedType × List Token} (x, more) ((y, i), []) = cc in
        omega (arith, some, ap length (ap (λ (o : SizedType × List Token). o.1) pairs))

    abbrev LQ : Lang SizedType
    LQ = LStarredType leaves types

    abbrev FQ : Family SizedType
    FQ w = starred_within leaves types w.turns w.depth

    -- what was read by the second reading till it stuck goes on
    stuck_goes : (n : ℕ) → Q x.1 w ts ≡ Err (Stuck n) → (s : StuckAt wq FQ LQ ts n) → Has (λ u y. LQ (s.used ++ u) y)
    stuck_goes n e s = go (FQ wq s.used) refl ((starred_within_law leaves types (Unit {0}) wq Any (λ _. fits)).run tt s.used tt (omega (arith, short, ap length s.cut, length-append s.used s.rest)))
      where
        above : Above wq wq
        above = record { fuel = omega arith; turns = omega arith; depth = omega arith }

        cut_of : (u m : List Token) → s.used ≡ u ++ m → ts ≡ u ++ (m ++ s.rest)
        cut_of u m c = s.cut ∙ ap (λ l. l ++ s.rest) c ∙ append_assoc u m s.rest

        go : (o : Outcome SizedType) → FQ wq s.used ≡ o → Verdict wq FQ LQ s.used o → Has (λ u y. LQ (s.used ++ u) y)
        go (Ok (y, [])) eo a = record { word = []; value = y; is = subst (λ l. LQ l y) (sym (append-nil s.used ∙ a.cut ∙ append-nil a.used)) a.is }
        go (Ok (y, t ∷ m)) eo a =
            let again : FQ wq (a.used ++ ((t ∷ m) ++ s.rest)) ≡ Ok (y, (t ∷ m) ++ s.rest) = a.again wq above ((t ∷ m) ++ s.rest) refl in
            let both : ◌≡◌ {A = Outcome SizedType} (Err (Stuck n)) (Ok (y, (t ∷ m) ++ s.rest)) = sym e ∙ ap (FQ wq) (cut_of a.used (t ∷ m) a.cut) ∙ again in
            absurd (let f : ⊥ = cc in f)
        go (Err NoMemory) eo a = absurd a
        go (Err (Stuck i)) eo a = stuck a.rest refl
          where
            stuck : (m : List Token) → a.rest ≡ m → Has (λ u y. LQ (s.used ++ u) y)
            stuck [] em = let h = a.goes_on em in let same : s.used ≡ a.used = a.cut ∙ ap (λ l. a.used ++ l) em ∙ append-nil a.used in record { word = h.word; value = h.value; is = subst (λ l. LQ (l ++ h.word) h.value) (sym same) h.is }
            stuck (t ∷ m) em =
                let again : FQ wq (a.used ++ ((t ∷ m) ++ s.rest)) ≡ Err (Stuck (length ((t ∷ m) ++ s.rest))) = a.again wq above ((t ∷ m) ++ s.rest) (sym (ap head em)) in
                let both : ◌≡◌ {A = Outcome SizedType} (Err (Stuck n)) (Err (Stuck (length ((t ∷ m) ++ s.rest)))) = sym e ∙ ap (FQ wq) (cut_of a.used (t ∷ m) (a.cut ∙ ap (λ l. a.used ++ l) em)) ∙ again in
                let same : n ≡ length ((t ∷ m) ++ s.rest) = cc in
                absurd (omega (arith, same, s.count, length-append m s.rest))
        go (Err (Deep i)) eo a =
            let again : FQ wq (a.used ++ a.last ∷ (a.rest ++ s.rest)) ≡ Err (Deep (length (a.rest ++ s.rest))) = a.again wq above refl (a.rest ++ s.rest) in
            let both : ◌≡◌ {A = Outcome SizedType} (Err (Stuck n)) (Err (Deep (length (a.rest ++ s.rest)))) = sym e ∙ ap (FQ wq) (cut_of a.used (a.last ∷ a.rest) a.cut) ∙ again in
            absurd (let f : ⊥ = cc in f)

    -- the second reading ends as it does with more turns, and with other tokens behind the next one
    same_castable : (w' : World) → Above w w' → (r' : List Token) → head r' ≡ head r → leaves_off (Q x.1 w' (v.used ++ r')) (length r') ≡ leaves_off (Q x.1 w ts) (length r)
    same_castable w' ab r' h = go (Q x.1 w ts) refl q_verdict
      where
        wq' : World
        wq' = record { fuel = w'.fuel; turns = w'.turns; depth = x.1 }

        above : Above wq wq'
        above = record { fuel = ab.fuel; turns = ab.turns; depth = omega arith }

        -- what the second reading left over, where it did not read past the first one
        within_used : (u m : List Token) → v.used ≡ u ++ m → v.used ++ r' ≡ u ++ (m ++ r')
        within_used u m c = ap (λ l. l ++ r') c ∙ append_assoc u m r'

        go : (o : Outcome SizedType) → Q x.1 w ts ≡ o → Verdict wq FQ LQ ts o → leaves_off (Q x.1 w' (v.used ++ r')) (length r') ≡ leaves_off o (length r)
        go (Ok (y, s)) e a = by (length s == length r) refl
          where
            by : (b : Bool) → (length s == length r) ≡ b → leaves_off (Q x.1 w' (v.used ++ r')) (length r') ≡ b
            by true eb =
                let q = same_cut a.used v.used s r (sym a.cut ∙ v.cut) (equal_is (length s) (length r) eb) in
                let again : FQ wq' (a.used ++ r') ≡ Ok (y, r') = a.again wq' above r' (h ∙ ap head (sym q.1)) in
                ap (λ o. leaves_off o (length r')) (ap (FQ wq') (ap (λ l. l ++ r') (sym q.0)) ∙ again) ∙ equal_yes (length r')
            by false eb = order (nat_lt (length s) (length r)) refl
              where
                differ : length s ≡ length r → ⊥
                differ z = let t : (length s == length r) ≡ true = ap (λ n. n == length r) z ∙ equal_yes (length r) in let c : true ≡ false = sym t ∙ eb in let f : ⊥ = cc in f

                order : (b : Bool) → nat_lt (length s) (length r) ≡ b → leaves_off (Q x.1 w' (v.used ++ r')) (length r') ≡ false
                order true lt =
                    let less : length s < length r = lt_of (length s) (length r) lt in
                    let q = between v.used a.used r s (sym v.cut ∙ a.cut) (omega (arith, less)) in
                    absurd (beyond q.more y.0 y.1 (omega (arith, less, ap length q.rest, length-append q.more s)) (sym (ap head q.rest ∙ more_head q.more s (omega (arith, less, ap length q.rest, length-append q.more s)))) (subst (λ l. IsStarredType leaves types l y.0 y.1) q.cut a.is))
                  where
                    more_head : (m s : List Token) → 0 < length m → head (m ++ s) ≡ head m
                    more_head [] s h = absurd (omega arith)
                    more_head (t ∷ m) s h = refl
                order false ge =
                    let least : length r ≤ length s = least_of (length s) (length r) ge in
                    let q = between a.used v.used s r (sym a.cut ∙ v.cut) least in
                    let some : 0 < length q.more = least_more q.more (ap length q.rest) in
                    let again : FQ wq' (a.used ++ (q.more ++ r')) ≡ Ok (y, q.more ++ r') = a.again wq' above (q.more ++ r') (head_of q.more r' r some ∙ ap head (sym q.rest)) in
                    ap (λ o. leaves_off o (length r')) (ap (FQ wq') (within_used a.used q.more q.cut) ∙ again) ∙ equal_no (length (q.more ++ r')) (length r') (λ z. omega (arith, z, some, length-append q.more r'))
                  where
                    least_more : (m : List Token) → length s ≡ length (m ++ r) → 0 < length m
                    least_more [] n = absurd (differ n)
                    least_more (t ∷ m) n = omega arith
        go (Err NoMemory) e a = absurd a
        go (Err (Stuck n)) e a = order (nat_lt (length a.rest) (length r)) refl
          where
            order : (b : Bool) → nat_lt (length a.rest) (length r) ≡ b → leaves_off (Q x.1 w' (v.used ++ r')) (length r') ≡ false
            order true lt =
                let less : length a.rest < length r = lt_of (length a.rest) (length r) lt in
                let q = between v.used a.used r a.rest (sym v.cut ∙ a.cut) (omega (arith, less)) in
                let some : 0 < length q.more = omega (arith, less, ap length q.rest, length-append q.more a.rest) in
                let g = stuck_goes n e a in
                absurd (beyond (q.more ++ g.word) g.value.0 g.value.1 (omega (arith, some, length-append q.more g.word)) (head_of q.more g.word a.rest some ∙ sym (ap head q.rest))
                (subst (λ l. IsStarredType leaves types l g.value.0 g.value.1) (ap (λ l. l ++ g.word) q.cut ∙ append_assoc v.used q.more g.word) g.is))
            order false ge =
                let least : length r ≤ length a.rest = least_of (length a.rest) (length r) ge in
                let q = between a.used v.used a.rest r (sym a.cut ∙ v.cut) least in
                ap (λ o. leaves_off o (length r')) (ap (FQ wq') (within_used a.used q.more q.cut) ∙ a.again wq' above (q.more ++ r') (same_front q.more ∙ ap head (sym q.rest)))
              where
                same_front : (m : List Token) → head (m ++ r') ≡ head (m ++ r)
                same_front [] = h
                same_front (t ∷ m) = refl
        go (Err (Deep n)) e a = order (nat_lt (length (a.last ∷ a.rest)) (length r + 1)) refl
          where
            order : (b : Bool) → nat_lt (length (a.last ∷ a.rest)) (length r + 1) ≡ b → leaves_off (Q x.1 w' (v.used ++ r')) (length r') ≡ false
            order true lt =
                let less : length (a.last ∷ a.rest) < length r + 1 = lt_of (length (a.last ∷ a.rest)) (length r + 1) lt in
                let q = between v.used a.used r (a.last ∷ a.rest) (sym v.cut ∙ a.cut) (omega (arith, less)) in
                let g = a.goes_on in
                absurd (beyond (q.more ++ a.last ∷ g.word) g.value.0 g.value.1 (omega (arith, length-append q.more (a.last ∷ g.word))) (front q.more a.rest g.word ∙ sym (ap head q.rest))
                (subst (λ l. IsStarredType leaves types l g.value.0 g.value.1) (ap (λ l. l ++ a.last ∷ g.word) q.cut ∙ append_assoc v.used q.more (a.last ∷ g.word)) g.is))
              where
                front : (m y z : List Token) → head (m ++ a.last ∷ z) ≡ head (m ++ a.last ∷ y)
                front [] y z = refl
                front (t ∷ m) y z = refl
            order false ge =
                let least : length r + 1 ≤ length (a.last ∷ a.rest) = least_of (length (a.last ∷ a.rest)) (length r + 1) ge in
                let q = between (a.used ++ a.last ∷ []) v.used a.rest r (append_assoc a.used (a.last ∷ []) a.rest ∙ sym a.cut ∙ v.cut) (omega (arith, least)) in
                ap (λ o. leaves_off o (length r')) (ap (FQ wq') (ap (λ l. l ++ r') (q.cut ∙ append_assoc a.used (a.last ∷ []) q.more) ∙ append_assoc a.used (a.last ∷ q.more) r') ∙ a.again wq' above refl (q.more ++ r'))

    -- where the second reading ends with the first one the type is that of a cast
    cast_is : leaves_off (Q x.1 w ts) (length r) ≡ true → IsStarredType leaves types v.used x.0 x.1
    cast_is h = go (Q x.1 w ts) h q_verdict
      where
        go : (o : Outcome SizedType) → leaves_off o (length r) ≡ true → Verdict wq FQ LQ ts o → IsStarredType leaves types v.used x.0 x.1
        go (Ok (y, s)) e a =
            let q = same_cut a.used v.used s r (sym a.cut ∙ v.cut) (equal_is (length s) (length r) e) in
            let is : IsStarredType leaves types v.used y.0 y.1 = subst (λ l. IsStarredType leaves types l y.0 y.1) q.0 a.is in
            let same = same_type v.used y.0 x.0 y.1 x.1 (as_type is) v.is in
            subst (λ n. IsStarredType leaves types v.used x.0 n) same.1 (subst (λ t. IsStarredType leaves types v.used t y.1) same.0 is)
        go (Err n) e a = absurd (let f : ⊥ = cc in f)

  first_law : (R : Type 0) (w : World) (G : List Token → Type 0) → (R → w.fuel ≤ w.turns) → Law R w G (λ w. first_type leaves types w.turns w.depth) LBegun
  unfolding first_type castable
  first_law R w G fits = record { run = λ rt ts q short. by (fits rt) ts short (P w ts) refl ((type_within_law leaves types R w G fits).run rt ts q short); has = begun_has }
    where
      T : Family SizedBegun
      T w = first_type leaves types w.turns w.depth

      with_flag : World → List Token → SizedType → Parser SizedBegun
      with_flag w ts x = λ r. Ok ((bg.Type x.0 (leaves_off (Q x.1 w ts) (length r)), x.1), r)

      as_begun : (u : List Token) → Has (λ v b. LType leaves types true (u ++ v) b) → Has (λ v b. LBegun (u ++ v) b)
      as_begun u h = record { word = h.word; value = (bg.Type h.value.0 false, h.value.1); is = no_cast h.is }

      by : w.fuel ≤ w.turns → (ts : List Token) → length ts < w.fuel → (o : Outcome SizedType) → P w ts ≡ o → Verdict w P (LType leaves types true) ts o → Verdict w T LBegun ts (and_then o (with_flag w ts))
      by f ts short (Ok (x, r)) e v = record {
        used = v.used;
        cut = v.cut;
        is = (v.is, λ c. cast_is w f ts short x r v c);
        again = λ w' ab r' h. ap (λ o. and_then o (with_flag w' (v.used ++ r'))) (v.again w' ab r' h) ∙ ap (λ c. Ok ((bg.Type x.0 c, x.1), r')) (same_castable w f ts short x r v w' ab r' h);
      }
      by f ts short (Err NoMemory) e v = absurd v
      by f ts short (Err (Stuck n)) e v = record { used = v.used; rest = v.rest; cut = v.cut; count = v.count; again = λ w' ab r' h. ap (λ o. and_then o (with_flag w' (v.used ++ r'))) (v.again w' ab r' h); goes_on = λ none. as_begun v.used (v.goes_on none) }
      by f ts short (Err (Deep n)) e v = record { used = v.used; last = v.last; rest = v.rest; cut = v.cut; count = v.count; again = λ w' ab d r'. ap (λ o. and_then o (with_flag w' (v.used ++ v.last ∷ r'))) (v.again w' ab d r'); goes_on = let h = v.goes_on in record { word = h.word; value = (bg.Type h.value.0 false, h.value.1); is = no_cast h.is } }

  -- ---- casts and parentheses

  pub cast_begun_law : (R : Type 0) (w : World) (G : List Token → Type 0) → (R → w.fuel ≤ w.turns) → ((t : Token) (ts : List Token) → G (t ∷ ts) → t.kind ≡ k.RightParen) → (o : Token) → o.kind ≡ k.LeftParen → (u : List Token) (x : SizedType) → IsStarredType leaves types u x.0 x.1
      → Law R w G (λ w. parse.cast_begun leaves types w.turns w.depth o x) (λ v y. LAsg leaves types (o ∷ (u ++ v)) y)
  unfolding parse.cast_begun
  cast_begun_law R w G fits g o oc u x a = take_law (λ w c. operand_within leaves types w.turns (pred w.depth) >>= (λ y. after_unary leaves types w.turns (pred w.depth) o.place (e.Cast o.place x.0 y.0, max x.1 y.1 + 1))) (nat_lt 1) (lt_grows 1) (λ t. t.kind ≡ k.RightParen) g
      (record { word = token k.RightParen ∷ one_at leaves types (start []) ∷ []; value = (e.Cast o.place x.0 (one_tree leaves types (start [])), max x.1 1 + 1); is = Rattle.al_parse_expr.proofs.Begins.asg_of leaves types (cast o (token k.RightParen) oc a.is refl (Rattle.al_parse_expr.proofs.Begins.one_unary leaves types (start []))) })
      (λ c ec. bind (lowered (within_law leaves types (pred w.depth) (R × (nat_lt 1 w.depth ≡ true)) (lower w) refl (λ r. fits r.0) _ tt)) (λ v y b.
      relang (λ r z j. subst (λ l. LAsg leaves types (o ∷ l) z) (append_assoc u (c ∷ v) r) j)
      (unary_behind_law leaves types (R × (nat_lt 1 w.depth ≡ true)) w (λ r. fits r.0) (o ∷ (u ++ c ∷ v)) (e.Cast o.place x.0 y.0, max x.1 y.1 + 1) o.place (cast o c oc a.is ec (unary_of leaves types b)) refl)))

  first_paren_law : (n : ℕ) (R : Type 0) (w : World) → w.depth ≡ n → (R → w.fuel ≤ w.turns) → (o : Token) → o.kind ≡ k.LeftParen → (u : List Token) (x : Sized) → IsAsg leaves types u x.0 x.1
      → Law R w Any (λ w. after_first leaves types w.turns w.depth o x) (λ v y. LPost leaves types (o ∷ (u ++ v)) y)
  unfolding after_first
  first_paren_law n R w d fits o oc u x a =
      bind (all_turns fits (λ i w. more_from leaves types w.turns w.depth (expr_within leaves types w.turns w.depth) i (x.0 ∷ []) x.1)
      (more_law leaves types n (λ R' w2 d2 f2 x2 r2. within_law leaves types n R' w2 d2 f2 x2 r2) (w.fuel ≤ w.turns) w.turns (record w { fuel = w.turns }) refl d (λ r. omega arith) (IsAsgs leaves types) (keeps_asgs leaves types) u (x.0 ∷ []) x.1 (one a))) (λ v xs l.
      expect_law (λ w c. post_from leaves types w.turns w.depth (expr_within leaves types w.turns w.depth) w.turns o.place (operand (closed o.place xs).0 (closed o.place xs).1)) k.RightParen (λ c ec.
      relang (λ r z j. subst (λ q. LPost leaves types (o ∷ q) z) (append_assoc (u ++ v) (c ∷ []) r ∙ append_assoc u v (c ∷ r)) j)
      (posts_law leaves types n (λ R' w2 d2 f2 x2 r2. within_law leaves types n R' w2 d2 f2 x2 r2) R w d fits (o ∷ ((u ++ v) ++ c ∷ [])) (operand (closed o.place xs).0 (closed o.place xs).1) o.place
      (operand_of leaves types (prim (closed_is leaves types o c oc l ec)) (ends_closed [] o (u ++ v) c k.RightParen ec refl)) refl)))

  pub paren_begun_law : (R : Type 0) (w : World) → (R → w.fuel ≤ w.turns) → (o : Token) → o.kind ≡ k.LeftParen → (u : List Token) (x : Sized) → IsAsg leaves types u x.0 x.1
      → Law R w Any (λ w. parse.paren_begun leaves types w.turns w.depth o x) (λ v y. LAsg leaves types (o ∷ (u ++ v)) y)
  unfolding parse.paren_begun
  paren_begun_law R w fits o oc u x a = bind (lowered (first_paren_law (pred w.depth) R (lower w) refl fits o oc u x a)) (λ v y p.
      relang (λ r z j. subst (λ l. LAsg leaves types (o ∷ l) z) (append_assoc u v r) j) (unary_behind_law leaves types R w fits (o ∷ (u ++ v)) y o.place (post p) refl))

  -- ---- what begins with a parenthesis

  after_law : (R : Type 0) (w : World) → (R → w.fuel ≤ w.turns) → (R → 0 < w.depth) → (o : Token) → o.kind ≡ k.LeftParen → (u : List Token) (x : Begun) (h : ℕ) → BegunIs u x h
      → Law R w Any (λ w. parse.begun_after leaves types w.turns w.depth o (x, h)) (λ v y. LBegun (o ∷ (u ++ v)) y)
  after_law R w fits deep o oc u (bg.Value x) h a = map_law (λ y. (bg.Value y.0, y.1)) (paren_begun_law R w fits o oc u (x, h) a) (λ v y b. b)
  after_law R w fits deep o oc u (bg.Type x c) h a =
      let tuples : Law R w Any (λ w. tuple_within leaves types w.turns w.depth o.place (x, h) >>= (λ b. type_behind leaves types w.turns w.depth o.place b >>= (λ y. pure (bg.Type y.0 false, y.1)))) (λ v y. LBegun (o ∷ (u ++ v)) y)
      = bind (tuple_within_law leaves types R w fits deep o oc u (x, h) a.0) (λ v b d.
      map_law (λ y. (bg.Type y.0 false, y.1)) (type_behind_law leaves types R w fits (o ∷ (u ++ v)) b o.place d refl) (λ r y j. no_cast (subst (λ l. LType leaves types true (o ∷ l) y) (append_assoc u v r) j))) in
      look kind kind_local (λ w next. if c && same_kind next k.RightParen then (parse.cast_begun leaves types w.turns w.depth o (x, h) >>= (λ y. pure (bg.Value y.0, y.1))) else (tuple_within leaves types w.turns w.depth o.place (x, h) >>= (λ b. type_behind leaves types w.turns w.depth o.place b >>= (λ y. pure (bg.Type y.0 false, y.1))))) tuples.has
      (λ next. choose (c && same_kind next k.RightParen)
      (λ yes. let p = and_parts c (same_kind next k.RightParen) yes in
      map_law (λ y. (bg.Value y.0, y.1)) (cast_begun_law R w (λ ts. Any ts × (kind ts ≡ next)) fits (λ t ts q. first_kind t ts next q.1 ∙ kind_is next k.RightParen p.1) o oc u (x, h) (a.1 p.0)) (λ v y b. b))
      (λ no. anywhere tuples))

  value_law : (R : Type 0) (w : World) → (R → w.fuel ≤ w.turns) → Law R w Any (λ w. parse.value_begun leaves types w.turns w.depth) LBegun
  unfolding parse.value_begun
  value_law R w fits = map_law (λ y. (bg.Value y.0, y.1)) (asgs leaves types R w fits) (λ u x a. a)

  module _ (n : ℕ) (sub : ℕ → ℕ → Parser SizedBegun)
      (subs : (R : Type 0) (w : World) → w.depth ≡ n → (R → w.fuel ≤ w.turns) → (R → 0 < w.depth) → Law R w Any (λ w. sub w.turns w.depth) LBegun) where
    at_law : (R : Type 0) (w : World) → w.depth ≡ n → (R → w.fuel ≤ w.turns) → Law R w Any (λ w. parse.begun_at leaves types w.turns w.depth (sub w.turns w.depth)) LBegun
    unfolding parse.begun_at
    at_law R w d fits = look (sees_type types) (type_local leaves types) (λ w is. peek >>= (λ next. if is then first_type leaves types w.turns w.depth else (if same_kind next k.LeftParen then (take_if (nat_lt 0 w.depth) >>= (λ o. sub w.turns w.depth >>= (λ x. parse.begun_after leaves types w.turns w.depth o x))) else parse.value_begun leaves types w.turns w.depth))) begun_has
        (λ is. look kind kind_local (λ w next. if is then first_type leaves types w.turns w.depth else (if same_kind next k.LeftParen then (take_if (nat_lt 0 w.depth) >>= (λ o. sub w.turns w.depth >>= (λ x. parse.begun_after leaves types w.turns w.depth o x))) else parse.value_begun leaves types w.turns w.depth)) begun_has
        (λ next. choose is
        (λ yes. first_law R w _ fits)
        (λ no. choose (same_kind next k.LeftParen)
        (λ yes. take_law (λ w o. sub w.turns w.depth >>= (λ x. parse.begun_after leaves types w.turns w.depth o x)) (nat_lt 0) (lt_grows 0) (λ t. t.kind ≡ k.LeftParen) (λ t ts q. first_kind t ts next q.1 ∙ kind_is next k.LeftParen yes) begun_has
        (λ o oc. bind (subs (R × (nat_lt 0 w.depth ≡ true)) w d (λ r. fits r.0) (λ r. lt_of 0 w.depth r.1)) (λ u x a. after_law (R × (nat_lt 0 w.depth ≡ true)) w (λ r. fits r.0) (λ r. lt_of 0 w.depth r.1) o oc u x.0 x.1 a)))
        (λ no2. anywhere (value_law R w fits)))))

  -- what is parsed behind a parenthesis, with one level less
  abbrev below : ℕ → ℕ → Parser SizedBegun
  below turns zero = refuse
  below turns (suc depth) = begun leaves types turns depth

  begun_is : (turns depth : ℕ) (ts : List Token) → begun leaves types turns depth ts ≡ parse.begun_at leaves types turns depth (below turns depth) ts
  unfolding begun
  begun_is turns zero ts = refl
  begun_is turns (suc depth) ts = refl

  pub begun_law : (n : ℕ) (R : Type 0) (w : World) → w.depth ≡ n → (R → w.fuel ≤ w.turns) → Law R w Any (λ w. begun leaves types w.turns w.depth) LBegun
  begun_law zero R w d fits = view_law (λ w. w) (λ w' ab. ab) (λ w' ab d. d) (λ r. r) (λ r. omega arith) (λ w' ab ts. begun_is w'.turns w'.depth ts)
      (at_law zero below (λ R' w2 d2 f2 deep. record { run = λ r. absurd (let h : 0 < w2.depth = deep r in omega (arith, d2)); has = begun_has }) R w d fits)
  begun_law (suc n) R w d fits = view_law (λ w. w) (λ w' ab. ab) (λ w' ab d. d) (λ r. r) (λ r. omega arith) (λ w' ab ts. begun_is w'.turns w'.depth ts)
      (at_law (suc n) below (λ R' w2 d2 f2 deep.
      view_law lower (λ w' ab. lower_above w2 w' ab) (λ w' ab same. ap pred same) (λ r. r) (λ r. omega arith)
      (λ w' ab ts. ap (λ m. below w'.turns m ts) (some_pred w'.depth n (omega (arith, d2, ab.depth))))
      (begun_law n R' (lower w2) (ap pred d2) f2)) R w d fits)
