-- A balanced tree of 65,536 blocks has at most 22 levels.
use Rattle.std.proofs.Common.{◌≡◌, ℕ, zero, suc, ◌+◌, ◌-◌, ◌≤◌, inl, inr, max, ◌∷◌, ◌++◌, length, suc-add, length-append, refl, arith}
use Rattle.std.proofs.lemmas.Bool.{cases_lt}
use Rattle.al_run_tree.specs.Tree.{Tree, Leaf, Branch, blocks, height, IsBalanced}
use Rattle.al_run_tree.specs.Size.{least_two, least_size}

least_zero : least_size 0 ≡ 0
unfolding least_size least_two
least_zero = refl

least_one : least_size 1 ≡ 1
unfolding least_size least_two
least_one = refl

least_next : (h : ℕ) → least_size (suc (suc h)) ≡ 1 + least_size h + least_size (suc h)
unfolding least_size least_two
least_next h = refl

least_high : least_size 23 ≡ 75024
unfolding least_size least_two
least_high = refl

least_up : (h : ℕ) → least_size h ≤ least_size (suc h)
least_up zero = omega (arith, least_zero, least_one)
least_up (suc h) = omega (arith, least_next h)

least_rises : (k h : ℕ) → least_size h ≤ least_size (k + h)
least_rises zero h = let same : 0 + h ≡ h = omega arith in rw same (omega arith)
least_rises (suc k) h = rw (suc-add k h) (omega (arith, least_rises k h, least_up (k + h)))

-- of two sides that differ by at most one level
least_step : (h k : ℕ) → k ≤ h → h ≤ suc k → least_size (suc h) ≤ 1 + least_size h + least_size k
least_step zero k le ge =
    let none : k ≡ 0 = omega arith in
    rw none (omega (arith, least_zero, least_one))
least_step (suc g) k le ge = elim (cases_lt k (suc g)) [
  | inl lt ↦ let same : k ≡ g = omega arith in rw same (omega (arith, least_next g))
  | inr up ↦ let same : k ≡ suc g = omega arith in rw same (omega (arith, least_next g, least_up g))
]

pub size_least : (t : Tree) → IsBalanced t → least_size (height t) ≤ length (blocks t)
size_least Leaf h = omega (arith, least_zero)
size_least (Branch l j b r) h = on (height l) (height r) (length (blocks l)) (length (blocks r)) (length (blocks l ++ b ∷ blocks r)) h.0 h.1 (size_least l h.2) (size_least r h.3) (length-append (blocks l) (b ∷ blocks r))
  where
    on : (m n x y z : ℕ) → m ≤ suc n → n ≤ suc m → least_size m ≤ x → least_size n ≤ y → z ≡ x + suc y → least_size (suc (max m n)) ≤ z
    on m n x y z le ge a b is = elim (cases_lt m n) [
      | inl lt ↦ let top : max m n ≡ n = omega arith in rw top (omega (arith, least_step n m (omega arith) ge))
      | inr up ↦ let top : max m n ≡ m = omega arith in rw top (omega (arith, least_step m n up le))
    ]

pub height_most : (t : Tree) → IsBalanced t → length (blocks t) ≤ 65536 → height t ≤ 22
height_most t h few = elim (cases_lt (height t) 23) [
  | inl lt ↦ omega arith
  | inr high ↦
      let up = least_rises (height t - 23) 23 in
      let same : height t - 23 + 23 ≡ height t = omega arith in
      let most : least_size 23 ≤ least_size (height t) = rw same at up in
      absurd (omega (arith, most, least_high, size_least t h))
]
