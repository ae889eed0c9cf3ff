-- What a declaration begins with keeps the law, in each way to read it.
use Rattle.std.proofs.Common.{◌≡◌, ℕ, ◌+◌, ◌≤◌, ◌<◌, Bool, true, false, if◌then◌else◌, List, [], ◌∷◌, ◌++◌, length, Option, Some, None, Ok, Err, refl, sym, ap, ◌∙◌, subst, arith, append_assoc, length-append}
use Rattle.al_base.specs.declared.place.Place.{Place}
use Rattle.al_lex.specs.declared.kind.TokenKind.TheVariants as k
use Rattle.al_lex.specs.declared.token.Token.{Token}
use Rattle.al_tree.specs.Words.{start}
use Rattle.al_tree.specs.Types.{Leaves, with_names, IsTypeName, type_name as is_type, AreStars}
use Rattle.al_tree.specs.Types as rules
use Rattle.al_tree.specs.Items.{Declared}
use Rattle.al_tree.specs.Reading.{Outcome, ◌>>=◌, pure, refuse, kind, name_number, take_if}
use Rattle.al_tree.specs.declared.cursor.ParseError.{ParseError}
use Rattle.al_tree.proofs.Verdicts.{world}
use Rattle.al_tree.proofs.Law.{World, Verdict, Lang, Any, head, Has, Law, bind, map_law, pure_law, refuse_law, choose, look, kind_local, start_local, located, take_law, all_turns, relang}
use Rattle.al_parse_type.specs.Parse.{sees_type_name, other_name, stars_from}
use Rattle.al_parse_type.specs.Within.{base_within}
use Rattle.al_parse_type.proofs.BoundLaw.{always, other_law, stars_law, fresh_token, fresh_is, fresh_place}
use Rattle.al_parse_type.proofs.TypeLaw.{LBase, type_name_local, type_name_is}
use Rattle.al_parse_type.proofs.BaseWhole.{base_within_law}
use Rattle.al_parse_stmt.specs.declared.heads.FirstName.{FirstName}
use Rattle.al_parse_stmt.specs.Ahead.{owner_of, inside_of}
use Rattle.al_parse_stmt.specs.Begun as parse
use Rattle.al_parse_stmt.specs.Begun.{Begun, lends, may_be, agrees, first_name, begins, begun_as}
use Rattle.al_parse_stmt.proofs.Facts.{never_ok, same_front}
use Rattle.al_parse_stmt.proofs.Begins.{same_read, itself, never_seen, begins_no, begins_new, begins_adt, begins_owner, begins_open, owner_is, types_as, parts_of}
use Rattle.al_parse_stmt.proofs.Declared.{NameIs, IsBegun, Agrees, OwnerFits}

number_local : (ts ts' : List Token) → head ts ≡ head ts' → name_number ts ≡ name_number ts'
unfolding name_number
number_local [] [] h = refl
number_local [] (t ∷ ts) h = cc
number_local (t ∷ ts) [] h = cc
number_local (t ∷ ts) (s ∷ ss) h = let e : t ≡ s = cc in ap (λ (x : Token). x.name) e

module _ (leaves : Leaves) (d : Declared) (owner : Option ℕ) (fit : OwnerFits d owner) where
  -- stars and the name of the first declarator, which begins at that place
  record FirstAt (at : Place) (v : List Token) (y : FirstName) : Type 0 where
    starred : List Token
    cut : v ≡ starred ++ y.name ∷ []
    stars : AreStars leaves d.types starred y.stars
    place : y.at ≡ at
    name : NameIs leaves d owner y.owned y.name

  first_long : (at : Place) (v : List Token) (y : FirstName) → FirstAt at v y → 0 < length v
  first_long at v y f = omega (arith, ap length f.cut, length-append f.starred (y.name ∷ []))

  -- a name that may follow
  record SomeName (at : Place) : Type 0 where
    token : Token
    owned : Bool
    place : token.place ≡ at
    is : NameIs leaves d owner owned token

  some_name : (at : Place) → SomeName at
  some_name at = by owner refl
    where
      by : (o : Option ℕ) → owner ≡ o → SomeName at
      by None e = record { token = fresh_token d.types at; owned = false; place = fresh_place d.types at; is = (fresh_is leaves d.types at, e) }
      by (Some n) e =
          let f = subst (OwnerFits d) e fit in
          record { token = record { kind = k.Name; name = n; from = 0; to = 0; place = at }; owned = true; place = refl; is = (is_type refl f.0, ap (λ o. may_be o n) e ∙ itself n) }

  named_at : (at : Place) (s : List Token) (n : ℕ) (t : Token) (owned : Bool) → AreStars leaves d.types s n → NameIs leaves d owner owned t → FirstAt at (s ++ t ∷ []) (first_name at n t owned)
  named_at at s n t owned a i = record { starred = s; cut = refl; stars = a; place = refl; name = i }

  behind_stars : (at : Place) (s : List Token) (n : ℕ) → AreStars leaves d.types s n → Has (λ v y. FirstAt at (s ++ v) y)
  behind_stars at s n a = let x = some_name at in record { word = x.token ∷ []; value = first_name at n x.token x.owned; is = named_at at s n x.token x.owned a x.is }

  first_place : (at : Place) → Has (λ v y. FirstAt at v y × (start v ≡ at))
  first_place at = let x = some_name at in record { word = x.token ∷ []; value = first_name at 0 x.token x.owned; is = (named_at at [] 0 x.token x.owned rules.none x.is, x.place) }

  module _ (R : Type 0) (w : World) (at : Place) (s : List Token) (n : ℕ) (a : AreStars leaves d.types s n) where
    abbrev LName : Lang FirstName
    LName v y = FirstAt at (s ++ v) y

    lender_law : {G : List Token → Type 0} → ((t : Token) (ts : List Token) → G (t ∷ ts) → IsTypeName leaves d.types t × (may_be owner t.name ≡ true)) → Law R w G (λ w. parse.lender d w.turns owner at n) LName
    unfolding parse.lender
    lender_law c = take_law (λ w t ts. (if agrees owner (lends d t.name (kind ts)) then pure (first_name at n t true) else refuse) ts) always (λ m n l e. e) (λ t. IsTypeName leaves d.types t × (may_be owner t.name ≡ true)) c (behind_stars at s n a)
        (λ t i. let whole = named_at at s n t true a i in
        let has : Has (λ v y. FirstAt at (s ++ t ∷ v) y) = record { word = []; value = first_name at n t true; is = whole } in
        look kind kind_local (λ w next. if agrees owner (lends d t.name next) then pure (first_name at n t true) else refuse) has
        (λ next. choose (agrees owner (lends d t.name next)) (λ yes. pure_law (first_name at n t true) whole) (λ not. refuse_law has)))

    first_may : (t : Token) (ts : List Token) → may_be owner (name_number (t ∷ ts)) ≡ true → may_be owner t.name ≡ true
    unfolding name_number
    first_may t ts e = e

    adt_law : {G : List Token → Type 0} → ((t : Token) (ts : List Token) → G (t ∷ ts) → IsTypeName leaves d.types t) → Law R w G (λ w. parse.adt_name d w.turns owner at n) LName
    unfolding parse.adt_name
    adt_law c = look (λ ts. may_be owner (name_number ts)) (λ ts ts' h. ap (may_be owner) (number_local ts ts' h)) (λ w fits. if fits then parse.lender d w.turns owner at n else refuse) (behind_stars at s n a)
        (λ fits. choose fits (λ yes. lender_law (λ t ts g. (c t ts g.0, first_may t ts (g.1 ∙ yes)))) (λ not. refuse_law (behind_stars at s n a)))

    new_law : {G : List Token → Type 0} → (o : Option ℕ) → owner ≡ o → Law R w G (λ w. parse.new_name d w.turns owner o at n) LName
    new_law None e = other_law leaves d.types (λ w t. pure (first_name at n t false)) (behind_stars at s n a) (λ t c. pure_law (first_name at n t false) (named_at at s n t false a (c, e)))
    new_law (Some x) e = refuse_law (behind_stars at s n a)

  inner_law : (R : Type 0) (w : World) → (R → w.fuel ≤ w.turns) → (at : Place)
      → Law R w Any (λ w. stars_from w.turns 0 >>= (λ n ts. (if sees_type_name d.types ts then parse.adt_name d w.turns owner at n else parse.new_name d w.turns owner owner at n) ts)) (FirstAt at)
  inner_law R w fits at =
      bind (all_turns fits (λ i w. stars_from i 0) (stars_law leaves d.types (w.fuel ≤ w.turns) w.turns (record w { fuel = w.turns }) refl [] 0 rules.none)) (λ s n a.
      look (sees_type_name d.types) (type_name_local leaves d.types) (λ w is. if is then parse.adt_name d w.turns owner at n else parse.new_name d w.turns owner owner at n) (behind_stars at s n a)
      (λ is. choose is (λ yes. adt_law R w at s n a (λ t ts g. type_name_is leaves d.types t ts (g.1 ∙ yes))) (λ not. new_law R w at s n a owner refl)))

  begins_law : (R : Type 0) (w : World) → (R → w.fuel ≤ w.turns) → Law R w Any (λ w. begins d w.turns owner) (λ v y. FirstAt y.at v y × (start v ≡ y.at))
  unfolding begins
  begins_law R w fits = look start start_local (λ w at. stars_from w.turns 0 >>= (λ n ts. (if sees_type_name d.types ts then parse.adt_name d w.turns owner at n else parse.new_name d w.turns owner owner at n) ts)) (there (start []))
      (λ at. relang (λ v y q. from at v y q.0 q.1) (located at (λ v y q. first_long at v y q) (first_place at) (inner_law R w fits at)))
    where
      from : (at : Place) (v : List Token) (y : FirstName) → FirstAt at v y → start v ≡ at → FirstAt y.at v y × (start v ≡ y.at)
      from at v y f s = (subst (λ p. FirstAt p v y) (sym f.place) f, s ∙ sym f.place)

      there : (at : Place) → Has (λ v y. FirstAt y.at v y × (start v ≡ y.at))
      there at = let h = first_place at in record { word = h.word; value = h.value; is = from at h.word h.value h.is.0 h.is.1 }

  pub as_law : (R : Type 0) (w : World) → (R → w.fuel ≤ w.turns) → Law R w Any (λ w. begun_as leaves w.turns w.depth d owner) (IsBegun leaves d owner)
  unfolding begun_as
  as_law R w fits = bind (base_within_law leaves (with_names d.types (inside_of d owner)) R w Any fits) (λ u b i. map_law (λ y. (b, y)) (begins_law R w fits)
      (λ v y q. record { front = u; starred = q.0.starred; cut = ap (λ l. u ++ l) q.0.cut; base = i; stars = q.0.stars; place = ap start (sym q.0.cut) ∙ q.1; name = q.0.name }))

-- ---- the way that is found ahead

module _ (leaves : Leaves) (d : Declared) (owner : Option ℕ) (fit : OwnerFits d owner) where
  -- it is the one in which the tokens are read, wherever the same ones stand with the same one behind them
  pub found_on : (F n : ℕ) (used : List Token) (y : Begun) (r : List Token) → length (used ++ r) < F → begun_as leaves F n d owner (used ++ r) ≡ Ok (y, r) → (F2 : ℕ) → F ≤ F2 → (r' : List Token) → head r' ≡ head r → owner_of d F2 (used ++ r') ≡ owner
  found_on F n used y r s h F2 more r' e =
      let types = types_as leaves F n d owner in
      let p = parts_of leaves F n d owner (used ++ r) y r h in
      let v = subst (Verdict (world F n) (λ w. base_within leaves types w.turns w.depth) (LBase leaves types true) (used ++ r)) p.base ((base_within_law leaves types (Unit {0}) (world F n) Any (λ _. omega arith)).run tt (used ++ r) tt s) in
      let short : length v.used + length p.behind < F = omega (arith, s, ap length v.cut, length-append v.used p.behind) in
      let b = subst (Verdict (world F n) (λ w. begins d w.turns owner) (λ v y. FirstAt leaves d owner fit y.at v y × (start v ≡ y.at)) p.behind) p.name ((begins_law leaves d owner fit (Unit {0}) (world F n) (λ _. omega arith)).run tt p.behind tt (omega (arith, short))) in
      let same : used ≡ v.used ++ b.used = sym (same_front used (v.used ++ b.used) r (v.cut ∙ ap (λ l. v.used ++ l) b.cut ∙ sym (append_assoc v.used b.used r))) in
      let name : begins d F2 owner (b.used ++ r') ≡ Ok (y.1, r') = b.again (world F2 n) (record { fuel = more; turns = more; depth = omega arith }) r' e in
      ap (owner_of d F2) (ap (λ l. l ++ r') same ∙ append_assoc v.used b.used r')
      ∙ owner_is leaves F2 n d types v.used y.0 (b.used ++ r') v.is (omega (arith, short, more)) (begins_open d F2 owner (b.used ++ r') y.1 r' (omega (arith, s, more)) name)
      ∙ begins_owner d F2 owner (b.used ++ r') y.1 r' name

-- ---- what is known of the token behind it

module _ (d : Declared) (F : ℕ) (owner : Option ℕ) where
  abbrev AgreesName : FirstName → List Token → Type 0
  AgreesName y r = y.owned ≡ true → agrees owner (lends d y.name.name (kind r)) ≡ true

  begins_agrees : (l : List Token) (y : FirstName) (r : List Token) → begins d F owner l ≡ Ok (y, r) → AgreesName y r
  begins_agrees l y r h = by (stars_from F 0 l) refl
    where
      never : {x : ParseError} → begins d F owner l ≡ Err x → AgreesName y r
      never {x} e = absurd (never_ok x (y, r) (sym e ∙ h))

      known : (z : FirstName) (r2 : List Token) → begins d F owner l ≡ Ok (z, r2) → AgreesName z r2 → AgreesName y r
      known z r2 e a = subst (λ (q : FirstName × List Token). AgreesName q.0 q.1) (same_read (z, r2) (y, r) (sym e ∙ h)) a

      without : (o : Option ℕ) → (r2 : List Token) (s : ℕ) → begins d F owner l ≡ parse.new_name d F owner o (start l) s r2 → AgreesName y r
      without None r2 s q = of (other_name d.types r2) q
        where
          of : (o : Outcome Token) → begins d F owner l ≡ Rattle.al_tree.specs.Reading.and_then o (λ t. pure (first_name (start l) s t false)) → AgreesName y r
          of (Ok x) q = known (first_name (start l) s x.0 false) x.1 q (λ e. absurd (let z : ⊥ = cc in z))
          of (Err x) q = never q
      without (Some x) r2 s q = never q

      fits : (a : Token) (r2 : List Token) (s : ℕ) (b c : Bool) → may_be owner a.name ≡ b → agrees owner (lends d a.name (kind r2)) ≡ c
          → begins d F owner l ≡ (if b then (if c then Ok (first_name (start l) s a true, r2) else refuse r2) else refuse (a ∷ r2)) → AgreesName y r
      fits a r2 s false c e f q = never q
      fits a r2 s true false e f q = never q
      fits a r2 s true true e f q = known (first_name (start l) s a true) r2 q (λ _. f)

      seen : (s : ℕ) (r2 : List Token) → stars_from F 0 l ≡ Ok (s, r2) → (b : Bool) → sees_type_name d.types r2 ≡ b → AgreesName y r
      seen s r2 e false f = without owner r2 s (begins_new d F owner l r2 s e f)
      seen s [] e true f = absurd (never_seen d.types f)
      seen s (a ∷ r2) e true f = fits a r2 s (may_be owner a.name) (agrees owner (lends d a.name (kind r2))) refl refl (begins_adt d F owner l r2 s a e f)

      by : (o : Outcome ℕ) → stars_from F 0 l ≡ o → AgreesName y r
      by (Err x) e = never (begins_no d F owner l x e)
      by (Ok x) e = seen x.0 x.1 e (sees_type_name d.types x.1) refl

pub as_agrees : (leaves : Leaves) (d : Declared) (F n : ℕ) (owner : Option ℕ) (ts : List Token) (y : Begun) (r : List Token) → begun_as leaves F n d owner ts ≡ Ok (y, r) → Agrees d owner y r
as_agrees leaves d F n owner ts y r h = let p = parts_of leaves F n d owner ts y r h in begins_agrees d F owner p.behind y.1 r p.name
