-- Lists in which one stands at a number, or behind those that are there.
use Rattle.std.proofs.Common.{◌≡◌, ℕ, zero, suc, ◌+◌, ◌<◌, ◌≤◌, Bool, true, false, List, [], ◌∷◌, ◌++◌, length, Some, arith, refl, ap, ◌∙◌, subst, length-append, length-set}
use Rattle.std.specs.Prelude.{if◌then◌else◌, nat_lt, slice_get, slice_set}
use Rattle.std.proofs.lemmas.Bool.Decides.{nat_tests}
use Rattle.al_globals.specs.Globals.{put}
use Rattle.al_sound_globals.proofs.Numbering.{after}

set_here : {A : Type 0} (xs : List A) (n : ℕ) (x : A) → n < length xs → slice_get (slice_set xs n x) n ≡ Some x
set_here [] n x h = absurd (omega (arith, h))
set_here (y ∷ xs) zero x h = refl
set_here (y ∷ xs) (suc n) x h = set_here xs n x (omega (arith, h))

pub set_there : {A : Type 0} (xs : List A) (n k : ℕ) (x : A) → (k ≡ n → ⊥) → slice_get (slice_set xs n x) k ≡ slice_get xs k
set_there [] n k x h = refl
set_there (y ∷ xs) zero zero x h = absurd (h refl)
set_there (y ∷ xs) zero (suc k) x h = refl
set_there (y ∷ xs) (suc n) zero x h = refl
set_there (y ∷ xs) (suc n) (suc k) x h = set_there xs n k x (λ e. h (ap suc e))

last_here : {A : Type 0} (xs : List A) (x : A) → slice_get (xs ++ x ∷ []) (length xs) ≡ Some x
last_here [] x = refl
last_here (y ∷ xs) x = last_here xs x

last_there : {A : Type 0} (xs : List A) (k : ℕ) (x : A) → (k ≡ length xs → ⊥) → slice_get (xs ++ x ∷ []) k ≡ slice_get xs k
last_there [] zero x h = absurd (h refl)
last_there [] (suc k) x h = refl
last_there (y ∷ xs) zero x h = refl
last_there (y ∷ xs) (suc k) x h = last_there xs k x (λ e. h (ap suc e))

below : (m n : ℕ) → nat_lt m n ≡ true → m < n
below m n h = grind (arith, nat_tests)

not_below : (m n : ℕ) → nat_lt m n ≡ false → n ≤ m
not_below m n h = grind (arith, nat_tests)

pub put_here : {A : Type 0} (xs : List A) (n : ℕ) (x : A) → n ≤ length xs → slice_get (put xs n x) n ≡ Some x
put_here xs n x within = on (nat_lt n (length xs)) refl
  where
    on : (b : Bool) → nat_lt n (length xs) ≡ b → slice_get (if b then slice_set xs n x else xs ++ x ∷ []) n ≡ Some x
    on true e = set_here xs n x (below n (length xs) e)
    on false e = let same : length xs ≡ n = (let most = not_below n (length xs) e in omega (arith, most, within)) in subst (λ k. slice_get (xs ++ x ∷ []) k ≡ Some x) same (last_here xs x)

pub put_there : {A : Type 0} (xs : List A) (n k : ℕ) (x : A) → n ≤ length xs → (k ≡ n → ⊥) → slice_get (put xs n x) k ≡ slice_get xs k
put_there xs n k x within h = on (nat_lt n (length xs)) refl
  where
    on : (b : Bool) → nat_lt n (length xs) ≡ b → slice_get (if b then slice_set xs n x else xs ++ x ∷ []) k ≡ slice_get xs k
    on true e = set_there xs n k x h
    on false e = let same : length xs ≡ n = (let most = not_below n (length xs) e in omega (arith, most, within)) in last_there xs k x (λ i. h (i ∙ same))

pub put_count : {A : Type 0} (xs : List A) (n : ℕ) (x : A) → length (put xs n x) ≡ after (length xs) n
put_count xs n x = on (nat_lt n (length xs))
  where
    on : (b : Bool) → length (if b then slice_set xs n x else xs ++ x ∷ []) ≡ (if b then length xs else length xs + 1)
    on true = length-set xs n x
    on false = length-append xs (x ∷ [])
