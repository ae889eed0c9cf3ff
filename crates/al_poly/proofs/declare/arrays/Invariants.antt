use Rattle.std.proofs.Common.{◌≡◌, length}
use Rattle.al_poly.specs.Types.{arrays}
use Rattle.al_poly.proofs.declare.arrays.Given as goal

abbrev pub invariant-loop-b : goal.invariant-loop-b
invariant-loop-b l = arrays l.names l.at l.bounds l.fn.ty ≡ arrays l.names l.at l.rest l.found

abbrev pub decreases-loop-b : goal.decreases-loop-b
decreases-loop-b l = length l.rest
