-- Slots among ranges, and elements among others.
use Rattle.std.proofs.Common.{◌≡◌, ℕ, zero, suc, ◌+◌, ◌<◌, ◌≤◌, List, [], ◌∷◌, length, slice_get, Some, refl, sym, arith, subst}
use Rattle.std.specs.Prelude.{All, Contains, slice_index_or}
use Rattle.rv_regs.specs.Uses.{Range, IsIn}

some_is : {X : Type 0} (i j : X) → Some i ≡ Some j → i ≡ j
some_is i j e = cc

-- an element of a list, all of whose elements are so
pub all_at : {X : Type 0} (P : X → Type 0) (xs : List X) (k : ℕ) (x : X) → slice_get xs k ≡ Some x → All P xs → P x
all_at P [] k x e all = absurd (cc)
all_at P (y ∷ xs) zero x e all = subst P (some_is y x e) (all 0 x (omega arith))
all_at P (y ∷ xs) (suc k) x e all = all_at P xs k x e (λ i d less. all (suc i) d (omega (arith, less)))

pub get_below : {X : Type 0} (xs : List X) (k : ℕ) (x : X) → slice_get xs k ≡ Some x → k < length xs
get_below [] k x e = absurd (cc)
get_below (y ∷ xs) zero x e = omega arith
get_below (y ∷ xs) (suc k) x e = omega (arith, get_below xs k x e)

-- one number alone
pub only_one : (n : ℕ) → Contains (n ∷ []) n
only_one n = (0, omega arith, refl)

pub first_of : (n m : ℕ) → Contains (n ∷ m ∷ []) n
first_of n m = (0, omega arith, refl)

pub second_of : (n m : ℕ) → Contains (n ∷ m ∷ []) m
second_of n m = (1, omega arith, refl)

-- ---- ranges

abbrev pub range : (from count : ℕ) → Range
range from count = record { from = from; count = count }

pub in_first : (r : Range) (rs : List Range) (t : ℕ) → r.from ≤ t → t < r.from + r.count → IsIn t (r ∷ rs)
in_first r rs t a b = (0, r, omega arith, refl, (a, b))

pub in_rest : (r : Range) (rs : List Range) (t : ℕ) → IsIn t rs → IsIn t (r ∷ rs)
in_rest r rs t q = (suc q.0, q.1, omega (arith, q.2), q.3, q.4)

pub is_in_one : (r : Range) (t : ℕ) → IsIn t (r ∷ []) → (r.from ≤ t) × (t < r.from + r.count)
is_in_one r t q = on q.0 q.1 q.2 q.3 q.4 where
  on : (k : ℕ) (x : Range) → k < length (r ∷ []) → slice_index_or (r ∷ []) k x ≡ x → (x.from ≤ t) × (t < x.from + x.count) → (r.from ≤ t) × (t < r.from + r.count)
  on zero x less e is = subst (λ (y : Range). (y.from ≤ t) × (t < y.from + y.count)) (sym e) is
  on (suc k) x less e is = absurd (omega (arith, less))

pub is_in_none : (t : ℕ) → IsIn t [] → ⊥
is_in_none t q = absurd (omega (arith, q.2))
