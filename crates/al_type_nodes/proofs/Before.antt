-- A rule that is asked before others.
use Rattle.std.proofs.Common.{◌≡◌, ℕ, Bool, true, false, List, ◌++◌, ap, ◌∙◌}
use Rattle.std.specs.Prelude.{Result, Ok, Err}
use Rattle.al_base.specs.declared.place.Place.{Place}
use Rattle.al_rules.specs.declared.fault.TypeFault.{TypeFault}
use Rattle.al_rules.specs.declared.fault.TypeStop.{TypeStop}
use Rattle.al_rules.specs.declared.fault.TypeStop.TheVariants.{Fault as Broken}
use Rattle.al_rules.specs.Outcome.{Good, Answers, ask, fault, judge, permits}
use Rattle.al_operands.proofs.Asking.{first-permits}

pub before-good : {B : Type 0} (n : ℕ) (at : Place) (h : Bool) (fs : List TypeFault) (a b : B) → h ≡ true → judge fs a ≡ Good b → judge (ask n at h ++ fs) a ≡ Good b
before-good n at h fs a b is e = ap (λ t. judge (ask n at t ++ fs) a) is ∙ e

pub before-behind : {B : Type 0} (n : ℕ) (at : Place) (h : Bool) (fs : List TypeFault) (a : B) (s : TypeStop) → h ≡ true → permits (judge fs a) s ≡ true → permits (judge (ask n at h ++ fs) a) s ≡ true
before-behind n at h fs a s is e = ap (λ t. permits (judge (ask n at t ++ fs) a) s) is ∙ e

pub before-holds : {B : Type 0} (n : ℕ) (at : Place) (h : Bool) (fs : List TypeFault) (a : B) (r : Result B TypeStop) → h ≡ true → Answers r (judge fs a) → Answers r (judge (ask n at h ++ fs) a)
before-holds n at h fs a (Ok b) is e = before-good n at h fs a b is e
before-holds n at h fs a (Err s) is e = before-behind n at h fs a s is e

pub before-first : {B : Type 0} (n : ℕ) (at : Place) (h : Bool) (fs : List TypeFault) (a : B) (s : TypeStop) → h ≡ false → s ≡ Broken (fault n at) → permits (judge (ask n at h ++ fs) a) s ≡ true
before-first n at h fs a s is e = ap (λ t. permits (judge (ask n at t ++ fs) a) s) is ∙ first-permits n at fs a s e

pub ruleset before = (before-holds, before-good, before-behind, before-first)
