-- What holds of what outcomes give.
use Rattle.std.proofs.Common.{◌≡◌, ℕ, Bool, true, false, ◌++◌, refl}
use Rattle.al_base.specs.declared.place.Place.{Place}
use Rattle.al_rules.specs.Outcome.{Outcome, Good, Bad, ask, judge, and_then, both, pair}
use Rattle.al_sound_operators.specs.Typed.{IfGood}

-- ---- by the outcome that is good

good_is : {A : Type 0} {a b : A} → Good a ≡ Good b → a ≡ b
good_is h = cc

-- where a rule is asked, and the outcome is good, the rule holds
pub judge_good : {A : Type 0} (n : ℕ) (at : Place) (h : Bool) (a b : A) → judge (ask n at h) a ≡ Good b → (h ≡ true) × (a ≡ b)
judge_good n at true a b e = (refl, good_is e)
judge_good n at false a b e = absurd (cc)

pub and_then_good : {A B : Type 0} (o : Outcome A) (f : A → Outcome B) (b : B) → and_then o f ≡ Good b → (a : A) × (o ≡ Good a) × (f a ≡ Good b)
and_then_good (Good a) f b e = (a, refl, e)
and_then_good (Bad fs) f b e = absurd (cc)

pub both_good : {A B C : Type 0} (x : Outcome A) (y : Outcome B) (f : A → B → Outcome C) (c : C) → both x y f ≡ Good c
    → (a : A) × (b : B) × (x ≡ Good a) × (y ≡ Good b) × (f a b ≡ Good c)
both_good (Good a) (Good b) f c e = (a, b, refl, refl, e)
both_good (Good a) (Bad gs) f c e = absurd (cc)
both_good (Bad fs) (Good b) f c e = absurd (cc)
both_good (Bad fs) (Bad gs) f c e = absurd (cc)

pub if_good : {A : Type 0} (P : A → Type 0) (o : Outcome A) (a : A) → IfGood o P → o ≡ Good a → P a
if_good P o a h e = rw e at h

-- ---- by what holds

pub where_good : {A : Type 0} (P : A → Type 0) (o : Outcome A) → ((a : A) → o ≡ Good a → P a) → IfGood o P
where_good P (Good a) h = h a refl
where_good P (Bad fs) h = tt

pub asked : {A : Type 0} (P : A → Type 0) (n : ℕ) (at : Place) (h : Bool) (a : A) → (h ≡ true → P a) → IfGood (judge (ask n at h) a) P
asked P n at true a f = f refl
asked P n at false a f = tt

pub asked_twice : {A : Type 0} (P : A → Type 0) (n m : ℕ) (at : Place) (h k : Bool) (a : A) → (h ≡ true → k ≡ true → P a)
    → IfGood (judge (ask n at h ++ ask m at k) a) P
asked_twice P n m at true true a f = f refl refl
asked_twice P n m at true false a f = tt
asked_twice P n m at false true a f = tt
asked_twice P n m at false false a f = tt

pub asked_thrice : {A : Type 0} (P : A → Type 0) (n m o : ℕ) (at : Place) (h k l : Bool) (a : A) → (h ≡ true → k ≡ true → l ≡ true → P a)
    → IfGood (judge (ask n at h ++ (ask m at k ++ ask o at l)) a) P
asked_thrice P n m o at true true true a f = f refl refl refl
asked_thrice P n m o at true true false a f = tt
asked_thrice P n m o at true false true a f = tt
asked_thrice P n m o at true false false a f = tt
asked_thrice P n m o at false true true a f = tt
asked_thrice P n m o at false true false a f = tt
asked_thrice P n m o at false false true a f = tt
asked_thrice P n m o at false false false a f = tt

pub after : {A B : Type 0} (P : A → Type 0) (Q : B → Type 0) (o : Outcome A) (f : A → Outcome B) → IfGood o P → ((a : A) → P a → IfGood (f a) Q) → IfGood (and_then o f) Q
after P Q (Good a) f h k = k a h
after P Q (Bad fs) f h k = tt

pub paired : {A B : Type 0} (P : A → Type 0) (Q : B → Type 0) (x : Outcome A) (y : Outcome B) → IfGood x P → IfGood y Q → IfGood (pair x y) (λ p. P p.0 × Q p.1)
paired P Q (Good a) (Good b) h k = (h, k)
paired P Q (Good a) (Bad gs) h k = tt
paired P Q (Bad fs) (Good b) h k = tt
paired P Q (Bad fs) (Bad gs) h k = tt

-- what holds also holds so
pub also : {A : Type 0} (P Q : A → Type 0) (o : Outcome A) → IfGood o P → ((a : A) → P a → Q a) → IfGood o Q
also P Q (Good a) h f = f a h
also P Q (Bad fs) h f = tt
