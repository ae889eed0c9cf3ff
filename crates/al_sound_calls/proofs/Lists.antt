-- Lists that are set and extended, tests, and outcomes.
use Rattle.std.proofs.Common.{◌≡◌, ℕ, zero, suc, ◌<◌, Bool, true, false, ◌&&◌, List, [], ◌∷◌, ◌++◌, length, Some, None, ◌⊎◌, inl, inr, arith, refl, sym, ap, ◌∙◌, subst}
use Rattle.std.specs.Prelude.{if◌then◌else◌, nat_lt, slice_get, slice_set}
use Rattle.std.proofs.lemmas.Option.{slice_get_within}
use Rattle.std.proofs.lemmas.Bool.Decides.{nat_tests}
use Rattle.al_base.specs.declared.place.Place.{Place}
use Rattle.al_rules.specs.declared.fault.TypeFault.{TypeFault}
use Rattle.al_rules.specs.Outcome.{Outcome, Good, Bad, and_then, ask, judge}
pub use Rattle.al_sound_environment.specs.Members.{Every}

-- ---- tests

pub and_both : (a b : Bool) → (a && b) ≡ true → (a ≡ true) × (b ≡ true)
and_both true b h = (refl, h)
and_both false b h = absurd (cc)

pub some_is : {A : Type 0} {a b : A} → Some a ≡ Some b → a ≡ b
some_is h = cc

pub none_some : {A : Type 0} {a : A} → None ≡ Some a → ⊥
none_some h = let f : ⊥ = cc in f

-- a rule that is asked without a fault holds
pub asked_true : (rule : ℕ) (at : Place) (b : Bool) → ask rule at b ≡ [] → b ≡ true
asked_true rule at true h = refl
asked_true rule at false h = absurd (cc)

pub none_in : {A : Type 0} (xs ys : List A) → xs ++ ys ≡ [] → (xs ≡ []) × (ys ≡ [])
none_in [] ys h = (refl, h)
none_in (x ∷ xs) ys h = absurd (cc)

pub judged_good : {A : Type 0} (fs : List TypeFault) (a b : A) → judge fs a ≡ Good b → (fs ≡ []) × (a ≡ b)
judged_good [] a b h = (refl, cc)
judged_good (f ∷ fs) a b h = absurd (cc)

pub then_good : {A B : Type 0} (o : Outcome A) (f : A → Outcome B) (b : B) → and_then o f ≡ Good b → (a : A) × (o ≡ Good a) × (f a ≡ Good b)
then_good (Good a) f b h = (a, refl, h)
then_good (Bad fs) f b h = absurd (cc)

-- ---- lists

pub every_at : {A : Type 0} (P : A → Type 0) (xs : List A) (n : ℕ) (x : A) → slice_get xs n ≡ Some x → Every P xs → P x
every_at P [] n x h all = absurd (cc)
every_at P (y ∷ ys) zero x h all = subst P (some_is h) all.0
every_at P (y ∷ ys) (suc n) x h all = every_at P ys n x h all.1

pub every_is : {A : Type 0} (P Q : A → Type 0) → ((x : A) → P x → Q x) → (xs : List A) → Every P xs → Every Q xs
every_is P Q f [] all = tt
every_is P Q f (x ∷ xs) all = (f x all.0, every_is P Q f xs all.1)

-- what is at hand stays where one is put behind
pub get_more : {A : Type 0} (xs : List A) (y : A) (n : ℕ) (x : A) → slice_get xs n ≡ Some x → slice_get (xs ++ y ∷ []) n ≡ Some x
get_more [] y n x h = absurd (cc)
get_more (z ∷ xs) y zero x h = h
get_more (z ∷ xs) y (suc n) x h = get_more xs y n x h

pub get_last : {A : Type 0} (xs : List A) (y : A) → slice_get (xs ++ y ∷ []) (length xs) ≡ Some y
get_last [] y = refl
get_last (z ∷ xs) y = get_last xs y

-- what is there with one behind was there, or is that one
pub get_either : {A : Type 0} (xs : List A) (y : A) (n : ℕ) (x : A) → slice_get (xs ++ y ∷ []) n ≡ Some x → (slice_get xs n ≡ Some x) ⊎ ((n ≡ length xs) × (y ≡ x))
get_either [] y zero x h = inr (refl, some_is h)
get_either [] y (suc n) x h = absurd (cc)
get_either (z ∷ xs) y zero x h = inl h
get_either (z ∷ xs) y (suc n) x h = go (get_either xs y n x h)
  where
    go : (slice_get xs n ≡ Some x) ⊎ ((n ≡ length xs) × (y ≡ x)) → (slice_get xs n ≡ Some x) ⊎ ((suc n ≡ suc (length xs)) × (y ≡ x))
    go (inl e) = inl e
    go (inr e) = inr (ap suc e.0, e.1)

pub get_past : {A : Type 0} (xs : List A) → slice_get xs (length xs) ≡ None
get_past [] = refl
get_past (x ∷ xs) = get_past xs

pub length_more : {A : Type 0} (xs : List A) (y : A) → length (xs ++ y ∷ []) ≡ suc (length xs)
length_more [] y = refl
length_more (x ∷ xs) y = ap suc (length_more xs y)

-- what stands there is put there
pub set_same : {A : Type 0} (xs : List A) (n : ℕ) (x : A) → slice_get xs n ≡ Some x → slice_set xs n x ≡ xs
set_same [] n x h = absurd (cc)
set_same (y ∷ ys) zero x h = ap (λ z. z ∷ ys) (sym (some_is h))
set_same (y ∷ ys) (suc n) x h = ap (λ zs. y ∷ zs) (set_same ys n x h)

pub set_get : {A : Type 0} (xs : List A) (n m : ℕ) (x y : A) → slice_get (slice_set xs n x) m ≡ Some y → ((n ≡ m) × (x ≡ y)) ⊎ (slice_get xs m ≡ Some y)
set_get [] n m x y h = absurd (cc)
set_get (z ∷ zs) zero zero x y h = inl (refl, some_is h)
set_get (z ∷ zs) zero (suc m) x y h = inr h
set_get (z ∷ zs) (suc n) zero x y h = inr h
set_get (z ∷ zs) (suc n) (suc m) x y h = go (set_get zs n m x y h)
  where
    go : ((n ≡ m) × (x ≡ y)) ⊎ (slice_get zs m ≡ Some y) → ((suc n ≡ suc m) × (x ≡ y)) ⊎ (slice_get zs m ≡ Some y)
    go (inl e) = inl (ap suc e.0, e.1)
    go (inr e) = inr e

pub lt_is : (m n : ℕ) → m < n → nat_lt m n ≡ true
lt_is m n h = grind (arith, nat_tests)

pub not_lt : (m : ℕ) → nat_lt m m ≡ false
not_lt m = grind (arith, nat_tests)

-- ---- a list where one is put by its number

abbrev pub put : {A : Type 0} → List A → ℕ → A → List A
put xs n x = if nat_lt n (length xs) then slice_set xs n x else xs ++ x ∷ []

pub put_same : {A : Type 0} (xs : List A) (n : ℕ) (x : A) → slice_get xs n ≡ Some x → put xs n x ≡ xs
put_same xs n x h = ap (λ b. if b then slice_set xs n x else xs ++ x ∷ []) (lt_is n (length xs) (slice_get_within xs n x h)) ∙ set_same xs n x h

pub put_last : {A : Type 0} (xs : List A) (x : A) → put xs (length xs) x ≡ xs ++ x ∷ []
put_last xs x = ap (λ b. if b then slice_set xs (length xs) x else xs ++ x ∷ []) (not_lt (length xs))
