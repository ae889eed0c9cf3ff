-- A base type is passed by its brackets.
use Rattle.std.proofs.Common.{◌≡◌, ℕ, zero, suc, pred, ◌+◌, ◌-◌, ◌<◌, Bool, true, false, List, [], ◌∷◌, ◌++◌, length, Some, Ok, refl, ap, ◌∙◌, subst, arith, append_assoc, length-append}
use Rattle.al_lex.specs.declared.kind.TokenKind.{TokenKind}
use Rattle.al_lex.specs.declared.kind.TokenKind.TheVariants as k
use Rattle.al_lex.specs.declared.token.Token.{Token}
use Rattle.al_tree.specs.Words.{basic_type, bound_sum, bound_product}
use Rattle.al_tree.specs.Types.{Leaves, IsTypeName, type_name, IsOtherName, other_name, IsBoundPrim, IsBoundTerm, IsBound, IsBounds, IsBase, IsStarred, IsTypeTree, IsTypes, IsParts}
use Rattle.al_tree.specs.Types as rules
use Rattle.al_tree.specs.Reading.{kind, same_kind, take_if}
use Rattle.al_tree.specs.declared.type_tree.BasicType.{BasicType}
use Rattle.al_tree.specs.declared.type_tree.BoundOp.{BoundOp}
use Rattle.al_tree.specs.declared.type_tree.Bound.{Bound}
use Rattle.al_tree.specs.declared.type_tree.TypeTree.{TypeTree}
use Rattle.al_tree.proofs.Law.{some_pred}
use Rattle.al_parse_type.proofs.BoundComplete.{less_pred}
use Rattle.al_parse_stmt.specs.Ahead.{still_open, pass_open, pass_group, pass_base_by, pass_base}

-- ---- tokens

-- a token that opens and closes nothing
abbrev Neutral : TokenKind → Type 0
Neutral kd = (n : ℕ) → still_open kd n ≡ n

neutral_as : (t : Token) (kd : TokenKind) → t.kind ≡ kd → Neutral kd → Neutral t.kind
neutral_as t kd c f n = ap (λ x. still_open x n) c ∙ f n

basic_neutral : (kd : TokenKind) (x : BasicType) → basic_type kd ≡ Some x → Neutral kd
basic_neutral k.LeftParen x e n = absurd (let f : ⊥ = cc in f)
basic_neutral k.LeftBracket x e n = absurd (let f : ⊥ = cc in f)
basic_neutral k.RightParen x e n = absurd (let f : ⊥ = cc in f)
basic_neutral k.RightBracket x e n = absurd (let f : ⊥ = cc in f)
basic_neutral _ x e n = refl

product_neutral : (kd : TokenKind) (op : BoundOp) → bound_product kd ≡ Some op → Neutral kd
product_neutral k.LeftParen op e n = absurd (let f : ⊥ = cc in f)
product_neutral k.LeftBracket op e n = absurd (let f : ⊥ = cc in f)
product_neutral k.RightParen op e n = absurd (let f : ⊥ = cc in f)
product_neutral k.RightBracket op e n = absurd (let f : ⊥ = cc in f)
product_neutral _ op e n = refl

sum_neutral : (kd : TokenKind) (op : BoundOp) → bound_sum kd ≡ Some op → Neutral kd
sum_neutral k.LeftParen op e n = absurd (let f : ⊥ = cc in f)
sum_neutral k.LeftBracket op e n = absurd (let f : ⊥ = cc in f)
sum_neutral k.RightParen op e n = absurd (let f : ⊥ = cc in f)
sum_neutral k.RightBracket op e n = absurd (let f : ⊥ = cc in f)
sum_neutral _ op e n = refl

-- ---- lists that open as much as they close

step : (m n : ℕ) (t : Token) (r : List Token) → pass_open (suc m) (suc n) (t ∷ r) ≡ pass_open m (still_open t.kind (suc n)) r
unfolding pass_open take_if
step m n t r = refl

ended : (m : ℕ) (r : List Token) → pass_open (suc m) zero r ≡ Ok (0, r)
unfolding pass_open
ended m r = refl

record Balanced (u : List Token) : Type 0 where
  run : (all m n : ℕ) (r : List Token) → all ≡ length u + m → pass_open all (suc n) (u ++ r) ≡ pass_open m (suc n) r

nil : Balanced []
nil = record { run = λ all m n r e. let same : all ≡ m = omega (arith, e) in ap (λ j. pass_open j (suc n) r) same }

neutral : (t : Token) → Neutral t.kind → Balanced (t ∷ [])
neutral t f = record {
  run = λ all m n r e. let more : all ≡ suc m = omega (arith, e) in
      ap (λ j. pass_open j (suc n) (t ∷ r)) more ∙ step m n t r ∙ ap (λ j. pass_open m j r) (f (suc n));
}

both : {u v : List Token} → Balanced u → Balanced v → Balanced (u ++ v)
both {u} {v} a b = record {
  run = λ all m n r e. ap (pass_open all (suc n)) (append_assoc u v r)
      ∙ a.run all (length v + m) n (v ++ r) (omega (arith, e, length-append u v)) ∙ b.run (length v + m) m n r refl;
}

before : (t : Token) {u : List Token} → Neutral t.kind → Balanced u → Balanced (t ∷ u)
before t {u} f b = both {u = t ∷ []} {v = u} (neutral t f) b

-- one bracket more, and one less
abbrev Opens : TokenKind → Type 0
Opens kd = (n : ℕ) → still_open kd n ≡ suc n

abbrev Closes : TokenKind → Type 0
Closes kd = (n : ℕ) → still_open kd (suc n) ≡ n

group : (o c : Token) {u : List Token} → Opens o.kind → Balanced u → Closes c.kind → Balanced (o ∷ (u ++ c ∷ []))
group o c {u} f b g = record {
  run = λ all m n r e. let more : all ≡ suc (length u + suc m) = omega (arith, e, length-append u (c ∷ [])) in
      ap (λ j. pass_open j (suc n) (o ∷ ((u ++ c ∷ []) ++ r))) more
      ∙ step (length u + suc m) n o ((u ++ c ∷ []) ++ r)
      ∙ ap (λ j. pass_open (length u + suc m) j ((u ++ c ∷ []) ++ r)) (f (suc n))
      ∙ ap (pass_open (length u + suc m) (suc (suc n))) (append_assoc u (c ∷ []) r)
      ∙ b.run (length u + suc m) (suc m) (suc n) (c ∷ r) refl
      ∙ step m (suc n) c r
      ∙ ap (λ j. pass_open m j r) (g (suc n));
}

paren : (o c : Token) {u : List Token} → o.kind ≡ k.LeftParen → Balanced u → c.kind ≡ k.RightParen → Balanced (o ∷ (u ++ c ∷ []))
paren o c oc b ec = group o c (λ n. ap (λ x. still_open x n) oc) b (λ n. ap (λ x. still_open x (suc n)) ec)

bracket : (o c : Token) {u : List Token} → o.kind ≡ k.LeftBracket → Balanced u → c.kind ≡ k.RightBracket → Balanced (o ∷ (u ++ c ∷ []))
bracket o c oc b ec = group o c (λ n. ap (λ x. still_open x n) oc) b (λ n. ap (λ x. still_open x (suc n)) ec)

-- ---- bounds and types

module _ (leaves : Leaves) (types : List ℕ) where
  type_neutral : (t : Token) → IsTypeName leaves types t → Neutral t.kind
  type_neutral t (type_name c f) = neutral_as t k.Name c (λ n. refl)

  other_neutral : (t : Token) → IsOtherName leaves types t → Neutral t.kind
  other_neutral t (other_name c f) = neutral_as t k.Name c (λ n. refl)

  mutual
    prim_b : {u : List Token} {x : Bound} {h : ℕ} → IsBoundPrim leaves types u x h → Balanced u
    prim_b (rules.number t c) = neutral t (neutral_as t k.Number c (λ n. refl))
    prim_b (rules.name t c) = neutral t (other_neutral t c)
    prim_b (rules.paren o c oc a ec) = paren o c oc (bound_b a) ec

    term_b : {u : List Token} {x : Bound} {h : ℕ} → IsBoundTerm leaves types u x h → Balanced u
    term_b (rules.prim a) = prim_b a
    term_b (rules.product t {u = u} {v = v} {op = op} a p b) = both {u = u} {v = t ∷ v} (term_b a) (before t (product_neutral t.kind op p) (prim_b b))

    bound_b : {u : List Token} {x : Bound} {h : ℕ} → IsBound leaves types u x h → Balanced u
    bound_b (rules.term a) = term_b a
    bound_b (rules.sum t {u = u} {v = v} {op = op} a p b) = both {u = u} {v = t ∷ v} (bound_b a) (before t (sum_neutral t.kind op p) (term_b b))

  bounds_b : {u : List Token} {xs : List Bound} {h : ℕ} → IsBounds leaves types u xs h → Balanced u
  bounds_b rules.none = nil
  bounds_b (rules.more o c {u = u} {v = v} l oc a ec) = both {u = u} {v = o ∷ (v ++ c ∷ [])} (bounds_b l) (bracket o c oc (bound_b a) ec)

  word_neutral : (w : Token) (kd : TokenKind) → w.kind ≡ kd → ((n : ℕ) → still_open kd n ≡ n) → Neutral w.kind
  word_neutral w kd c f = neutral_as w kd c f

  buffered_b : (w o c p q : Token) (u v : List Token) → w.kind ≡ k.Chan → Balanced (o ∷ (u ++ c ∷ [])) → Balanced (p ∷ (v ++ q ∷ [])) → Balanced (w ∷ o ∷ (u ++ c ∷ p ∷ (v ++ q ∷ [])))
  buffered_b w o c p q u v wc a b = before w (word_neutral w k.Chan wc (λ n. refl))
      (subst (λ l. Balanced (o ∷ l)) (append_assoc u (c ∷ []) (p ∷ (v ++ q ∷ []))) (both {u = o ∷ (u ++ c ∷ [])} {v = p ∷ (v ++ q ∷ [])} a b))

  mutual
    base_b : {bare takes : Bool} {u : List Token} {x : TypeTree} {h : ℕ} → IsBase leaves types bare takes u x h → Balanced u
    base_b (rules.basic t {x = x} c) = neutral t (basic_neutral t.kind x c)
    base_b (rules.named t c) = neutral t (type_neutral t c)
    base_b (rules.instance t o c tn oc l ec) = before t (type_neutral t tn) (bracket o c oc (types_b l) ec)
    base_b (rules.tuple w o c wc oc l ec) = before w (word_neutral w k.Tuple wc (λ n. refl)) (paren o c oc (parts_b l) ec)
    base_b (rules.bare_tuple o c oc l ec) = paren o c oc (parts_b l) ec
    base_b (rules.channel w o c wc oc a ec) = before w (word_neutral w k.Chan wc (λ n. refl)) (paren o c oc (tree_b a) ec)
    base_b (rules.buffered w o c p q {u = u} {v = v} wc oc a ec pc b qc) = buffered_b w o c p q u v wc (paren o c oc (tree_b a) ec) (bracket p q pc (bound_b b) qc)

    starred_b : {bare takes : Bool} {u : List Token} {x : TypeTree} {h : ℕ} → IsStarred leaves types bare takes u x h → Balanced u
    starred_b (rules.base a) = base_b a
    starred_b (rules.star t {u = u} a c) = both {u = u} {v = t ∷ []} (starred_b a) (neutral t (neutral_as t k.Star c (λ n. refl)))

    tree_b : {bare : Bool} {u : List Token} {x : TypeTree} {h : ℕ} → IsTypeTree leaves types bare u x h → Balanced u
    tree_b (rules.plain a) = starred_b a
    tree_b (rules.array {u = u} {v = v} a l) = both {u = u} {v = v} (starred_b a) (bounds_b l)

    types_b : {bare : Bool} {u : List Token} {xs : List TypeTree} {h : ℕ} → IsTypes leaves types bare u xs h → Balanced u
    types_b (rules.one a) = tree_b a
    types_b (rules.more t {u = u} {v = v} l c a) = both {u = u} {v = t ∷ v} (types_b l) (before t (neutral_as t k.Comma c (λ n. refl)) (tree_b a))

    parts_b : {bare : Bool} {u : List Token} {xs : List TypeTree} {h : ℕ} → IsParts leaves types bare u xs h → Balanced u
    parts_b (rules.parts t {u = u} {v = v} l c a) = both {u = u} {v = t ∷ v} (types_b l) (before t (neutral_as t k.Comma c (λ n. refl)) (tree_b a))

-- ---- what is passed

enter : (F : ℕ) (kd : TokenKind) (o : Token) (ts : List Token) → o.kind ≡ kd → same_kind kd kd ≡ true → pass_group F kd (o ∷ ts) ≡ pass_open F 1 ts
unfolding pass_group kind take_if
enter F kd o ts oc e = rw (oc, e) refl

no_group : (F : ℕ) (kd : TokenKind) (r : List Token) → same_kind (kind r) kd ≡ false → pass_group F kd r ≡ Ok (0, r)
unfolding pass_group
no_group F kd r e = rw e refl

closed : (F : ℕ) (c : Token) (u r : List Token) → Balanced u → Closes c.kind → length u + 1 < F → pass_open F 1 (u ++ (c ∷ r)) ≡ Ok (0, r)
closed F c u r b g s =
    let m : ℕ = F - length u in
    let some : 1 < m = omega (arith, s) in
    let left : 0 < pred m = less_pred 0 m some in
    b.run F m 0 (c ∷ r) (omega (arith, s))
    ∙ ap (λ j. pass_open j 1 (c ∷ r)) (some_pred m 1 some)
    ∙ step (pred m) 0 c r
    ∙ ap (λ j. pass_open (pred m) j r) (g 0)
    ∙ ap (λ j. pass_open j 0 r) (some_pred (pred m) 0 left)
    ∙ ended (pred (pred m)) r

passed_group : (F : ℕ) (kd : TokenKind) (o c : Token) (u r : List Token) → o.kind ≡ kd → same_kind kd kd ≡ true → Balanced u → Closes c.kind → length u + 1 < F → pass_group F kd (o ∷ (u ++ (c ∷ r))) ≡ Ok (0, r)
passed_group F kd o c u r oc e b g s = enter F kd o (u ++ (c ∷ r)) oc e ∙ closed F c u r b g s

basic_passed : (F : ℕ) (kd : TokenKind) (x : BasicType) (t : Token) (r : List Token) → basic_type kd ≡ Some x → pass_base_by F kd (t ∷ r) ≡ Ok (0, r)
unfolding take_if
basic_passed F k.LeftParen x t r e = absurd (let f : ⊥ = cc in f)
basic_passed F k.Tuple x t r e = absurd (let f : ⊥ = cc in f)
basic_passed F k.Chan x t r e = absurd (let f : ⊥ = cc in f)
basic_passed F k.Name x t r e = absurd (let f : ⊥ = cc in f)
basic_passed F _ x t r e = refl

by_first : (F : ℕ) (t : Token) (ts : List Token) (kd : TokenKind) → t.kind ≡ kd → pass_base F (t ∷ ts) ≡ pass_base_by F kd (t ∷ ts)
unfolding pass_base kind
by_first F t ts kd c = ap (λ x. pass_base_by F x (t ∷ ts)) c

pass_name : (F : ℕ) (t : Token) (ts : List Token) → pass_base_by F k.Name (t ∷ ts) ≡ pass_group F k.LeftBracket ts
unfolding take_if
pass_name F t ts = refl

pass_tuple : (F : ℕ) (t : Token) (ts : List Token) → pass_base_by F k.Tuple (t ∷ ts) ≡ pass_group F k.LeftParen ts
unfolding take_if
pass_tuple F t ts = refl

pass_channel : (F : ℕ) (t : Token) (ts r : List Token) → pass_group F k.LeftParen ts ≡ Ok (0, r) → pass_base_by F k.Chan (t ∷ ts) ≡ pass_group F k.LeftBracket r
unfolding take_if
pass_channel F t ts r e = rw e refl

paren_closes : (c : Token) → c.kind ≡ k.RightParen → Closes c.kind
paren_closes c ec n = ap (λ x. still_open x (suc n)) ec

bracket_closes : (c : Token) → c.kind ≡ k.RightBracket → Closes c.kind
bracket_closes c ec n = ap (λ x. still_open x (suc n)) ec

same_paren : same_kind k.LeftParen k.LeftParen ≡ true
unfolding same_kind
same_paren = refl

same_bracket : same_kind k.LeftBracket k.LeftBracket ≡ true
unfolding same_kind
same_bracket = refl

module _ (leaves : Leaves) (types : List ℕ) where
  -- a base type is passed where no bracket stands behind it
  pub passes : {takes : Bool} {u : List Token} {x : TypeTree} {h : ℕ} → IsBase leaves types true takes u x h → (F : ℕ) (r : List Token) → same_kind (kind r) k.LeftBracket ≡ false → length u < F → pass_base F (u ++ r) ≡ Ok (0, r)
  passes (rules.basic t {x = x} c) F r f s = by_first F t r t.kind refl ∙ basic_passed F t.kind x t r c
  passes (rules.named t (type_name c e)) F r f s = by_first F t r k.Name c ∙ pass_name F t r ∙ no_group F k.LeftBracket r f
  passes (rules.instance t o c {u = u} (type_name tc e) oc l ec) F r f s =
      let cut : (u ++ c ∷ []) ++ r ≡ u ++ (c ∷ r) = append_assoc u (c ∷ []) r in
      ap (λ m. pass_base F (t ∷ o ∷ m)) cut
      ∙ by_first F t (o ∷ (u ++ (c ∷ r))) k.Name tc ∙ pass_name F t (o ∷ (u ++ (c ∷ r)))
      ∙ passed_group F k.LeftBracket o c u r oc same_bracket (types_b leaves types l) (bracket_closes c ec) (omega (arith, s, length-append u (c ∷ [])))
  passes (rules.tuple w o c {u = u} wc oc l ec) F r f s =
      let cut : (u ++ c ∷ []) ++ r ≡ u ++ (c ∷ r) = append_assoc u (c ∷ []) r in
      ap (λ m. pass_base F (w ∷ o ∷ m)) cut
      ∙ by_first F w (o ∷ (u ++ (c ∷ r))) k.Tuple wc ∙ pass_tuple F w (o ∷ (u ++ (c ∷ r)))
      ∙ passed_group F k.LeftParen o c u r oc same_paren (parts_b leaves types l) (paren_closes c ec) (omega (arith, s, length-append u (c ∷ [])))
  passes (rules.bare_tuple o c {u = u} oc l ec) F r f s =
      let cut : (u ++ c ∷ []) ++ r ≡ u ++ (c ∷ r) = append_assoc u (c ∷ []) r in
      ap (λ m. pass_base F (o ∷ m)) cut
      ∙ by_first F o (u ++ (c ∷ r)) k.LeftParen oc
      ∙ passed_group F k.LeftParen o c u r oc same_paren (parts_b leaves types l) (paren_closes c ec) (omega (arith, s, length-append u (c ∷ [])))
  passes (rules.channel w o c {u = u} wc oc a ec) F r f s =
      let cut : (u ++ c ∷ []) ++ r ≡ u ++ (c ∷ r) = append_assoc u (c ∷ []) r in
      ap (λ m. pass_base F (w ∷ o ∷ m)) cut
      ∙ by_first F w (o ∷ (u ++ (c ∷ r))) k.Chan wc
      ∙ pass_channel F w (o ∷ (u ++ (c ∷ r))) r (passed_group F k.LeftParen o c u r oc same_paren (tree_b leaves types a) (paren_closes c ec) (omega (arith, s, length-append u (c ∷ []))))
      ∙ no_group F k.LeftBracket r f
  passes (rules.buffered w o c p q {u = u} {v = v} wc oc a ec pc b qc) F r f s =
      let cut : (u ++ c ∷ p ∷ (v ++ q ∷ [])) ++ r ≡ u ++ (c ∷ p ∷ (v ++ (q ∷ r))) = append_assoc u (c ∷ p ∷ (v ++ q ∷ [])) r ∙ ap (λ m. u ++ c ∷ p ∷ m) (append_assoc v (q ∷ []) r) in
      let back : List Token = p ∷ (v ++ (q ∷ r)) in
      ap (λ m. pass_base F (w ∷ o ∷ m)) cut
      ∙ by_first F w (o ∷ (u ++ (c ∷ back))) k.Chan wc
      ∙ pass_channel F w (o ∷ (u ++ (c ∷ back))) back (passed_group F k.LeftParen o c u back oc same_paren (tree_b leaves types a) (paren_closes c ec) (omega (arith, s, length-append u (c ∷ p ∷ (v ++ q ∷ [])), length-append v (q ∷ []))))
      ∙ passed_group F k.LeftBracket p q v r pc same_bracket (bound_b leaves types b) (bracket_closes q qc) (omega (arith, s, length-append u (c ∷ p ∷ (v ++ q ∷ [])), length-append v (q ∷ [])))
