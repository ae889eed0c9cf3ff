-- What is true of each of a list, of tests, and of outcomes.
use Rattle.std.proofs.Common.{◌≡◌, ℕ, zero, suc, Bool, true, false, ◌&&◌, List, [], ◌∷◌, ◌++◌, length, Option, Some, None, option_map, refl, sym, ap₂, subst}
use Rattle.std.specs.Prelude.{if◌then◌else◌, nat_lt, option_and_then, slice_get, slice_set}
use Rattle.std.specs.List.{list_all}
use Rattle.al_base.specs.declared.place.Place.{Place}
use Rattle.al_rules.specs.declared.fault.TypeFault.{TypeFault}
use Rattle.al_rules.specs.Outcome.{Outcome, Good, Bad, and_then, ask, judge}
use Rattle.al_sound_environment.specs.Members.{Every}

-- ---- tests

pub and_both : (a b : Bool) → (a && b) ≡ true → (a ≡ true) × (b ≡ true)
and_both true b h = (refl, h)
and_both false b h = absurd (cc)

pub both : (a b : Bool) → a ≡ true → b ≡ true → (a && b) ≡ true
both a b h k = ap₂ (λ (x y : Bool). x && y) h k

pub some_is : {A : Type 0} {a b : A} → Some a ≡ Some b → a ≡ b
some_is h = cc

-- a rule that is asked without a fault holds
pub asked_true : (rule : ℕ) (at : Place) (b : Bool) → ask rule at b ≡ [] → b ≡ true
asked_true rule at true h = refl
asked_true rule at false h = absurd (cc)

pub none_in : {A : Type 0} (xs ys : List A) → xs ++ ys ≡ [] → (xs ≡ []) × (ys ≡ [])
none_in [] ys h = (refl, h)
none_in (x ∷ xs) ys h = absurd (cc)

pub mapped : {A B : Type 0} (g : A → B) (o : Option A) (u : B) → option_map g o ≡ Some u → (a : A) × (o ≡ Some a) × (u ≡ g a)
mapped g None u h = absurd (cc)
mapped g (Some a) u h = (a, refl, sym (some_is h))

pub then_some : {A B : Type 0} (g : A → Option B) (o : Option A) (u : B) → option_and_then g o ≡ Some u → (a : A) × (o ≡ Some a) × (g a ≡ Some u)
then_some g None u h = absurd (cc)
then_some g (Some a) u h = (a, refl, h)

-- ---- outcomes

pub then_good : {A B : Type 0} (o : Outcome A) (f : A → Outcome B) (b : B) → and_then o f ≡ Good b → (a : A) × (o ≡ Good a) × (f a ≡ Good b)
then_good (Good a) f b h = (a, refl, h)
then_good (Bad fs) f b h = absurd (cc)

pub good_is : {A : Type 0} {a b : A} → Good a ≡ Good b → a ≡ b
good_is h = cc

pub judged_good : {A : Type 0} (fs : List TypeFault) (a b : A) → judge fs a ≡ Good b → (fs ≡ []) × (a ≡ b)
judged_good [] a b h = (refl, good_is h)
judged_good (f ∷ fs) a b h = absurd (cc)

-- ---- lists

pub all_at : {A : Type 0} (p : A → Bool) (xs : List A) (k : ℕ) (x : A) → slice_get xs k ≡ Some x → list_all p xs ≡ true → p x ≡ true
all_at p [] k x e all = absurd (cc)
all_at p (y ∷ ys) zero x e all = subst (λ z. p z ≡ true) (some_is e) (and_both (p y) _ all).0
all_at p (y ∷ ys) (suc k) x e all = all_at p ys k x e (and_both (p y) _ all).1

pub every_at : {A : Type 0} (P : A → Type 0) (xs : List A) (n : ℕ) (x : A) → slice_get xs n ≡ Some x → Every P xs → P x
every_at P [] n x h all = absurd (cc)
every_at P (y ∷ ys) zero x h all = subst P (some_is h) all.0
every_at P (y ∷ ys) (suc n) x h all = every_at P ys n x h all.1

pub every_set : {A : Type 0} (P : A → Type 0) (xs : List A) (n : ℕ) (y : A) → Every P xs → P y → Every P (slice_set xs n y)
every_set P [] n y h p = tt
every_set P (x ∷ xs) zero y h p = (p, h.1)
every_set P (x ∷ xs) (suc n) y h p = (h.0, every_set P xs n y h.1 p)

pub every_append : {A : Type 0} (P : A → Type 0) (xs ys : List A) → Every P xs → Every P ys → Every P (xs ++ ys)
every_append P [] ys h k = k
every_append P (x ∷ xs) ys h k = (h.0, every_append P xs ys h.1 k)

pub every_more : {A : Type 0} (P : A → Type 0) (xs : List A) (y : A) → Every P xs → P y → Every P (xs ++ y ∷ [])
every_more P xs y h p = every_append P xs (y ∷ []) h (p, tt)

-- a list that was set or put behind
pub every_put : {A : Type 0} (P : A → Type 0) (xs : List A) (n : ℕ) (y : A) → Every P xs → P y → Every P (if nat_lt n (length xs) then slice_set xs n y else xs ++ y ∷ [])
every_put P xs n y h p = go (nat_lt n (length xs))
  where
    go : (b : Bool) → Every P (if b then slice_set xs n y else xs ++ y ∷ [])
    go true = every_set P xs n y h p
    go false = every_more P xs y h p
