use Rattle.std.proofs.Common.{◌≡◌, ◌++◌, drop}
use Rattle.al_lower.specs.Alike.{numbers_of}
use Rattle.al_lower.proofs.classes.numbers_of.Given as goal

abbrev pub invariant-loop-other : goal.invariant-loop-other
invariant-loop-other l = l.numbers ++ numbers_of l.class l.number (drop l.other-index l.classes) ≡ numbers_of l.class 0 l.classes
