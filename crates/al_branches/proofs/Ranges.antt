-- The numbers of the branches of each item stand behind those of the items before it.
use Rattle.std.proofs.Common.{◌≡◌, ℕ, zero, suc, ◌+◌, ◌*◌, ◌-◌, ◌<◌, ◌≤◌, List, length, ap, sym, arith, inl, inr, add-one}
use Rattle.std.proofs.Math.Nat.{mul-le-mul_right}
use Rattle.std.proofs.lemmas.Bool.{cases_lt}
use Rattle.al_tree.specs.declared.item.Item.{Item}
use Rattle.al_declare.specs.declared.function.Defined.{Defined}
use Rattle.al_branches.specs.Numbers.{given, first}
use Rattle.al_branches.proofs.FirstsAre.{first-none, first-more}

-- ---- numbers as pairs

-- the pairs of numbers, of which the first are below n
pub pair-within : (u c r j : ℕ) → r < u → j < c → r + j * u < c * u
pair-within u c r j small below =
    let most : (j + 1) * u ≤ c * u = mul-le-mul_right u (omega arith) in
    let step : (j + 1) * u ≡ j * u + u = grind arith in
    omega arith

same-second : (u r j q l : ℕ) → r < u → r + j * u ≡ q + l * u → j < l → ⊥
same-second u r j q l small e below =
    let most : (j + 1) * u ≤ l * u = mul-le-mul_right u (omega arith) in
    let step : (j + 1) * u ≡ j * u + u = grind arith in
    omega arith

pub pair-once : (u r j q l : ℕ) → r < u → q < u → r + j * u ≡ q + l * u → (r ≡ q) × (j ≡ l)
pair-once u r j q l small less e = elim (cases_lt j l) [
  | inl below ↦ absurd (same-second u r j q l small e below)
  | inr above ↦ elim (cases_lt l j) [
    | inl below ↦ absurd (same-second u q l r j less (sym e) below)
    | inr least ↦ let same : j ≡ l = omega arith in (cancelled u r j q l e same, same)
  ]
]
  where
    cancelled : (u r j q l : ℕ) → r + j * u ≡ q + l * u → j ≡ l → r ≡ q
    cancelled u r j q l e same = let f : j * u ≡ l * u = ap (λ n. n * u) same in omega arith

-- ---- items

module _ (items : List Item) (ds : List Defined) where
  pub first-rises : (i by : ℕ) → first items ds i ≤ first items ds (i + by)
  first-rises i zero = let same : first items ds (i + 0) ≡ first items ds i = ap (first items ds) (omega arith) in omega arith
  first-rises i (suc by) =
      let before = first-rises i by in
      let more = first-more items ds (i + by) in
      let same : first items ds (i + by + 1) ≡ first items ds (i + suc by) = ap (first items ds) (regrouped i by) in
      omega arith
    where
      regrouped : (i by : ℕ) → i + by + 1 ≡ i + suc by
      regrouped i by = omega arith

  pub first-before : (i l : ℕ) → i < l → first items ds i + given items ds i ≤ first items ds l
  first-before i l below =
      let more = first-more items ds i in
      let rises : first items ds (i + 1) ≤ first items ds (i + 1 + (l - (i + 1))) = first-rises (i + 1) (l - (i + 1)) in
      let same : first items ds (i + 1 + (l - (i + 1))) ≡ first items ds l = ap (first items ds) (whole i l below) in
      omega arith
    where
      whole : (i l : ℕ) → i < l → i + 1 + (l - (i + 1)) ≡ l
      whole i l below = omega arith

  -- the item among whose numbers one is
  pub record Located (n : ℕ) : Type 0 where
    pub i : ℕ
    pub low : first items ds i ≤ n
    pub high : n < first items ds i + given items ds i

  pub located : (count n : ℕ) → length ds ≤ n → n < first items ds count → Located n
  located zero n low high = let none = first-none items ds in absurd (omega arith)
  located (suc count) n low high =
      let more = first-more items ds count in
      let here : first items ds (suc count) ≡ first items ds (count + 1) = ap (first items ds) (sym (add-one count)) in
      elim (cases_lt n (first items ds count)) [
        | inl below ↦ located count n low below
        | inr above ↦ record { i = count; low = above; high = omega arith }
      ]
