-- Which faults a node has does not depend on what it gives.
use Rattle.std.proofs.Common.{◌≡◌, true, List, [], ◌∷◌, refl}
use Rattle.al_rules.specs.declared.fault.TypeFault.{TypeFault}
use Rattle.al_rules.specs.declared.fault.TypeStop.{TypeStop}
use Rattle.al_rules.specs.declared.fault.TypeStop.TheVariants.{Fault as Broken, NoMemory}
use Rattle.al_rules.specs.Outcome.{judge, permits}

pub other-node : {A B : Type 0} (fs : List TypeFault) (a : A) (b : B) (s : TypeStop) → permits (judge fs a) s ≡ true → permits (judge fs b) s ≡ true
other-node fs a b NoMemory h = refl
other-node [] a b (Broken g) h = h
other-node (f ∷ fs) a b (Broken g) h = h

pub ruleset judged = (other-node)
