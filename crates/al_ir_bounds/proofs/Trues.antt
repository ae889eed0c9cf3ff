-- What tests that are true say.
use Rattle.std.proofs.Common.{◌≡◌, ℕ, zero, suc, ◌≤◌, ◌<◌, ◌⊎◌, inl, inr, Bool, true, false, ◌&&◌, ◌||◌, nat_eq, nat_lt, nat_le, List, [], ◌∷◌, length, All, Some, slice_get, refl, arith}
use Rattle.std.specs.List.{list_all, AllByRecursion}
use Rattle.std.proofs.lemmas.List.Elements.{All-from_recursion}
use Rattle.std.proofs.lemmas.Grind.{common_steps}

pub and_true : (a b : Bool) → (a && b) ≡ true → (a ≡ true) × (b ≡ true)
and_true true b h = (refl, h)
and_true false b h = absurd (cc)

pub or_true : (a b : Bool) → (a || b) ≡ true → (a ≡ true) ⊎ (b ≡ true)
or_true true b h = inl refl
or_true false b h = inr h

pub is_le : (m n : ℕ) → nat_le m n ≡ true → m ≤ n
is_le m n h = grind (arith, common_steps)

pub is_lt : (m n : ℕ) → nat_lt m n ≡ true → m < n
is_lt m n h = grind (arith, common_steps)

pub is_eq : (m n : ℕ) → nat_eq m n ≡ true → m ≡ n
is_eq m n h = grind (arith, common_steps)

module _ {A B : Type 0} where
  pub both : (a b : Bool) → (a ≡ true → A) → (b ≡ true → B) → (a && b) ≡ true → A × B
  both a b f g h = let p = and_true a b h in (f p.0, g p.1)

  pub one_of : (a b : Bool) → (a ≡ true → A) → (b ≡ true → B) → (a || b) ≡ true → A ⊎ B
  one_of true b f g h = inl (f refl)
  one_of false b f g h = inr (g h)

module _ {A : Type 0} (P : A → Type 0) (p : A → Bool) (f : (x : A) → p x ≡ true → P x) where
  each : (xs : List A) → list_all p xs ≡ true → AllByRecursion P xs
  each [] h = tt
  each (x ∷ xs) h = let t = and_true (p x) (list_all p xs) h in (f x t.0, each xs t.1)

  pub all_are : (xs : List A) → list_all p xs ≡ true → All P xs
  all_are xs h = All-from_recursion P xs (each xs h)

pub get_below : {X : Type 0} (xs : List X) (k : ℕ) (x : X) → slice_get xs k ≡ Some x → k < length xs
get_below [] k x h = absurd (cc)
get_below (y ∷ xs) zero x h = omega arith
get_below (y ∷ xs) (suc k) x h = omega (arith, get_below xs k x h)
