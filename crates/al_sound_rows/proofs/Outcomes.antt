-- What is known where an outcome is good.
use Rattle.std.proofs.Common.{◌≡◌, ℕ, Bool, true, false, List, [], ◌∷◌, ◌++◌, Some, refl}
use Rattle.al_base.specs.declared.place.Place.{Place}
use Rattle.al_rules.specs.declared.fault.TypeFault.{TypeFault}
use Rattle.al_rules.specs.Outcome.{Outcome, Good, Bad, and_then, ask, judge, pair}

pub good_is : {A : Type 0} {a b : A} → Good a ≡ Good b → a ≡ b
good_is h = cc

pub some_is : {A : Type 0} {a b : A} → Some a ≡ Some b → a ≡ b
some_is h = cc

pub and_then_good : {A B : Type 0} (o : Outcome A) (f : A → Outcome B) (b : B) → and_then o f ≡ Good b → (a : A) × (o ≡ Good a) × (f a ≡ Good b)
and_then_good (Good a) f b e = (a, refl, e)
and_then_good (Bad fs) f b e = absurd (cc)

pub after_pair : {A B C : Type 0} (x : Outcome A) (y : Outcome B) (f : A × B → Outcome C) (c : C) → and_then (pair x y) f ≡ Good c
    → (a : A) × (b : B) × (x ≡ Good a) × (y ≡ Good b) × (f (a, b) ≡ Good c)
after_pair (Good a) (Good b) f c e = (a, b, refl, refl, e)
after_pair (Good a) (Bad gs) f c e = absurd (cc)
after_pair (Bad fs) (Good b) f c e = absurd (cc)
after_pair (Bad fs) (Bad gs) f c e = absurd (cc)

pub judged_good : {A : Type 0} (fs : List TypeFault) (a b : A) → judge fs a ≡ Good b → (fs ≡ []) × (a ≡ b)
judged_good [] a b e = (refl, good_is e)
judged_good (f ∷ fs) a b e = absurd (cc)

pub none_left : {A : Type 0} (xs ys : List A) → xs ++ ys ≡ [] → (xs ≡ []) × (ys ≡ [])
none_left [] ys e = (refl, e)
none_left (x ∷ xs) ys e = absurd (cc)

pub asked_none : (n : ℕ) (at : Place) (h : Bool) → ask n at h ≡ [] → h ≡ true
asked_none n at true e = refl
asked_none n at false e = absurd (cc)
