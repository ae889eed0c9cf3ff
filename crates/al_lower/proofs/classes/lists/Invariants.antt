use Rattle.std.proofs.Common.{◌≡◌, ◌++◌, drop}
use Rattle.al_lower.specs.Alike.{lists_from}
use Rattle.al_lower.proofs.classes.lists.Given as goal

abbrev pub invariant-loop-class : goal.invariant-loop-class
invariant-loop-class l = l.lists ++ lists_from l.classes l.number (drop l.class-index l.classes) ≡ lists_from l.classes 0 l.classes
