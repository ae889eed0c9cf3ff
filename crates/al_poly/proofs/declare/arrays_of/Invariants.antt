use Rattle.std.proofs.Common.{◌≡◌, length}
use Rattle.al_poly.specs.Types.{plain_arrays}
use Rattle.al_poly.proofs.declare.arrays_of.Given as goal

abbrev pub invariant-loop-b : goal.invariant-loop-b
invariant-loop-b l = plain_arrays l.names l.at l.bounds l.fn.ty ≡ plain_arrays l.names l.at l.rest l.found

abbrev pub decreases-loop-b : goal.decreases-loop-b
decreases-loop-b l = length l.rest
