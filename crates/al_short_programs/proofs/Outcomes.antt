-- What is good has good parts.
use Rattle.std.proofs.Common.{◌≡◌, List, [], ◌∷◌, refl}
use Rattle.al_rules.specs.declared.fault.TypeFault.{TypeFault}
use Rattle.al_rules.specs.Outcome.{Outcome, Good, Bad, judge, and_then}

pub good_is : {A : Type 0} (a b : A) → Good a ≡ Good b → a ≡ b
good_is a b h = cc

pub and_then_good : {A B : Type 0} (o : Outcome A) (f : A → Outcome B) (b : B) → and_then o f ≡ Good b → (a : A) × (o ≡ Good a) × (f a ≡ Good b)
and_then_good (Good a) f b e = (a, refl, e)
and_then_good (Bad fs) f b e = absurd (let f : ⊥ = cc in f)

pub judge_good : {A : Type 0} (fs : List TypeFault) (a b : A) → judge fs a ≡ Good b → a ≡ b
judge_good [] a b e = good_is a b e
judge_good (f ∷ fs) a b e = absurd (let f : ⊥ = cc in f)
