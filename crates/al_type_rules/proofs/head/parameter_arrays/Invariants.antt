use Rattle.std.proofs.Common.{◌≡◌, length}
use Rattle.al_type_rules.specs.Types.{parameter_arrays}
use Rattle.al_type_rules.proofs.head.parameter_arrays.Given as goal

abbrev pub invariant-loop-b : goal.invariant-loop-b
invariant-loop-b l = parameter_arrays l.env l.at l.bounds l.fn.ty ≡ parameter_arrays l.env l.at l.rest l.found

abbrev pub decreases-loop-b : goal.decreases-loop-b
decreases-loop-b l = length l.rest
