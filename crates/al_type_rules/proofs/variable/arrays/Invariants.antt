use Rattle.std.proofs.Common.{◌≡◌, length}
use Rattle.al_type_rules.specs.Types.{arrays}
use Rattle.al_type_rules.proofs.variable.arrays.Given as goal

abbrev pub invariant-loop-b : goal.invariant-loop-b
invariant-loop-b l = arrays l.env l.at l.bounds l.fn.ty ≡ arrays l.env l.at l.rest l.found

abbrev pub decreases-loop-b : goal.decreases-loop-b
decreases-loop-b l = length l.rest
