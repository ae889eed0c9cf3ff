-- How many functions before one are of its item.
use Rattle.std.proofs.Common.{◌≡◌, ◌==◌, ℕ, zero, suc, ◌+◌, ◌<◌, ◌≤◌, cond, List, [], ◌∷◌, take, refl, ap, ◌∙◌, subst, arith, inl, inr, Some, None}
use Rattle.std.specs.Prelude.{slice_get}
use Rattle.std.proofs.lemmas.Bool.{eq-eqb, ne_eqb, cases_eq}
use Rattle.std.proofs.lemmas.List.Sums.{sum_by-cons}
use Rattle.al_declare.specs.declared.function.Defined.{Defined}
use Rattle.al_branches.specs.Numbers.{uses}

-- whether a function is of an item, as a number
abbrev pub one_if : Defined → ℕ → ℕ
one_if d i = cond (d.item == i) 1 0

pub uses-cons : (d : Defined) (ds : List Defined) (i : ℕ) → uses (d ∷ ds) i ≡ one_if d i + uses ds i
unfolding uses
uses-cons d ds i = sum_by-cons (λ (x : Defined). cond (x.item == i) 1 0) d ds

pub uses-empty : (i : ℕ) → uses [] i ≡ 0
unfolding uses
uses-empty i = refl

pub one-yes : (d : Defined) (i : ℕ) → d.item ≡ i → one_if d i ≡ 1
one-yes d i e = ap (λ b. cond b 1 0) (eq-eqb d.item i e)

pub one-no : (d : Defined) (i : ℕ) → (d.item ≡ i → ⊥) → one_if d i ≡ 0
one-no d i ne = ap (λ b. cond b 1 0) (ne_eqb d.item i ne)

some-is : (x d : Defined) → Some x ≡ Some d → x ≡ d
some-is x d h = cc

-- a function counts itself
pub rank-below : (ds : List Defined) (k : ℕ) (d : Defined) → slice_get ds k ≡ Some d → uses (take k ds) d.item + 1 ≤ uses ds d.item
rank-below [] k d h = absurd (none d h)
  where
    none : (d : Defined) → None ≡ Some d → ⊥
    none d h = cc
rank-below (x ∷ xs) zero d h =
    let yes = one-yes x d.item (ap (λ (y : Defined). y.item) (some-is x d h)) in
    let more = uses-cons x xs d.item in
    let none = uses-empty d.item in
    omega arith
rank-below (x ∷ xs) (suc k) d h =
    let rest = rank-below xs k d h in
    let more = uses-cons x xs d.item in
    let front = uses-cons x (take k xs) d.item in
    omega arith

-- and those before it
pub rank-rises : (ds : List Defined) (k m : ℕ) (d e : Defined) → slice_get ds k ≡ Some d → slice_get ds m ≡ Some e → k < m → uses (take k ds) d.item + 1 ≤ uses (take m ds) d.item
rank-rises [] k m d e h g below = absurd (none d h)
  where
    none : (d : Defined) → None ≡ Some d → ⊥
    none d h = cc
rank-rises (x ∷ xs) k zero d e h g below = absurd (omega arith)
rank-rises (x ∷ xs) zero (suc m) d e h g below =
    let yes = one-yes x d.item (ap (λ (y : Defined). y.item) (some-is x d h)) in
    let more = uses-cons x (take m xs) d.item in
    let none = uses-empty d.item in
    omega arith
rank-rises (x ∷ xs) (suc k) (suc m) d e h g below =
    let rest = rank-rises xs k m d e h g (omega arith) in
    let more = uses-cons x (take m xs) d.item in
    let front = uses-cons x (take k xs) d.item in
    omega arith

-- the function of an item before which so many are of it
pub record Ranked (ds : List Defined) (i q : ℕ) : Type 0 where
  pub k : ℕ
  pub d : Defined
  pub is : slice_get ds k ≡ Some d
  pub of : d.item ≡ i
  pub rank : uses (take k ds) i ≡ q

later : (x : Defined) (xs : List Defined) (i q : ℕ) → Ranked xs i q → Ranked (x ∷ xs) i (one_if x i + q)
later x xs i q r = record {
  k = suc r.k;
  d = r.d;
  is = r.is;
  of = r.of;
  rank = uses-cons x (take r.k xs) i ∙ ap (λ n. one_if x i + n) r.rank;
}

one_more : (q : ℕ) → 1 + q ≡ suc q
one_more q = omega arith

zero_add : (q : ℕ) → 0 + q ≡ q
zero_add q = omega arith

-- the first of a list is of the item, and those behind it are found
ranked-here : (x : Defined) (xs : List Defined) (i q : ℕ) → x.item ≡ i → q < 1 + uses xs i → ((n : ℕ) → n < uses xs i → Ranked xs i n) → Ranked (x ∷ xs) i q
ranked-here x xs i zero same h next = record { k = 0; d = x; is = refl; of = same; rank = uses-empty i }
ranked-here x xs i (suc q) same h next =
    subst (λ n. Ranked (x ∷ xs) i n) (ap (λ n. n + q) (one-yes x i same) ∙ one_more q) (later x xs i q (next q (omega arith)))

pub ranked : (ds : List Defined) (i q : ℕ) → q < uses ds i → Ranked ds i q
ranked [] i q h = let none = uses-empty i in absurd (omega arith)
ranked (x ∷ xs) i q h =
    let more = uses-cons x xs i in
    elim (cases_eq x.item i) [
      | inl same ↦ let yes = one-yes x i same in ranked-here x xs i q same (omega arith) (λ n less. ranked xs i n less)
      | inr other ↦
          let no = one-no x i other in
          subst (λ n. Ranked (x ∷ xs) i n) (ap (λ n. n + q) no ∙ zero_add q) (later x xs i q (ranked xs i q (omega arith)))
    ]
