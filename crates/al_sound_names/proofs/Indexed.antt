-- Lists by the numbers of their elements.
use Rattle.std.proofs.Common.{◌≡◌, ℕ, zero, suc, ◌+◌, ◌<◌, ◌≤◌, Bool, true, if◌then◌else◌, List, [], ◌∷◌, ◌++◌, length, Some, refl, ap, ◌∙◌, ◌⊎◌, inl, inr, arith}
use Rattle.std.specs.Prelude.{slice_get, nat_le}
use Rattle.std.proofs.lemmas.Grind.{common_steps}
use Rattle.al_type_function.specs.Numbers.{capped, indexed}

pub some_is : {A : Type 0} {a b : A} → Some a ≡ Some b → a ≡ b
some_is e = cc

pub get_below : {A : Type 0} (xs : List A) (n : ℕ) (x : A) → slice_get xs n ≡ Some x → n < length xs
get_below [] n x e = absurd (cc)
get_below (y ∷ xs) zero x e = omega arith
get_below (y ∷ xs) (suc n) x e = let below = get_below xs n x e in omega (arith, below)

pub get_left : {A : Type 0} (xs ys : List A) (n : ℕ) (x : A) → slice_get xs n ≡ Some x → slice_get (xs ++ ys) n ≡ Some x
get_left [] ys n x e = absurd (cc)
get_left (y ∷ xs) ys zero x e = e
get_left (y ∷ xs) ys (suc n) x e = get_left xs ys n x e

pub get_last : {A : Type 0} (xs : List A) (x : A) → slice_get (xs ++ x ∷ []) (length xs) ≡ Some x
get_last [] x = refl
get_last (y ∷ xs) x = get_last xs x

-- what stands in a list with one more behind it is among those before, or is that
pub get_push : {A : Type 0} (xs : List A) (x : A) (n : ℕ) (y : A) → slice_get (xs ++ x ∷ []) n ≡ Some y → (slice_get xs n ≡ Some y) ⊎ ((n ≡ length xs) × (x ≡ y))
get_push [] x zero y e = inr (refl, some_is e)
get_push [] x (suc n) y e = absurd (cc)
get_push (z ∷ xs) x zero y e = inl e
get_push (z ∷ xs) x (suc n) y e = on (get_push xs x n y e)
  where
    on : (slice_get xs n ≡ Some y) ⊎ ((n ≡ length xs) × (x ≡ y)) → (slice_get xs n ≡ Some y) ⊎ ((suc n ≡ suc (length xs)) × (x ≡ y))
    on (inl q) = inl q
    on (inr q) = inr (ap suc q.0, q.1)

pub indexed_get : {A B : Type 0} (f : ℕ → A → B) (from : ℕ) (xs : List A) (n : ℕ) (y : B) → slice_get (indexed f from xs) n ≡ Some y
    → (x : A) × (slice_get xs n ≡ Some x) × (f (from + n) x ≡ y)
unfolding indexed
indexed_get f from [] n y e = absurd (cc)
indexed_get f from (x ∷ xs) zero y e = (x, refl, ap (λ k. f k x) (omega arith) ∙ some_is e)
indexed_get f from (x ∷ xs) (suc n) y e =
    let h = indexed_get f (from + 1) xs n y e in
    let same : from + suc n ≡ from + 1 + n = omega arith in
    (h.0, h.1, ap (λ k. f k h.0) same ∙ h.2)

pub get_indexed : {A B : Type 0} (f : ℕ → A → B) (from : ℕ) (xs : List A) (n : ℕ) (x : A) → slice_get xs n ≡ Some x → slice_get (indexed f from xs) n ≡ Some (f (from + n) x)
unfolding indexed
get_indexed f from [] n x e = absurd (cc)
get_indexed f from (y ∷ xs) zero x e =
    let same : from ≡ from + 0 = omega arith in ap (λ (a : _). Some (f from a)) (some_is e) ∙ ap (λ k. Some (f k x)) same
get_indexed f from (y ∷ xs) (suc n) x e =
    let same : from + 1 + n ≡ from + suc n = omega arith in get_indexed f (from + 1) xs n x e ∙ ap (λ k. Some (f k x)) same

-- a number that has room in 32 bits
pub capped_is : (n : ℕ) → n ≤ 4294967295 → capped n ≡ n
capped_is n h = ap (λ (b : Bool). if b then n else 4294967295) (at_most n h)
  where
    at_most : (n : ℕ) → n ≤ 4294967295 → nat_le n 4294967295 ≡ true
    at_most n h = grind (arith, common_steps, h)
