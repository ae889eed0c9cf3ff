use Rattle.std.proofs.Common.{◌≡◌}
use Rattle.al_poly.specs.Instances.{followed}
use Rattle.al_poly.proofs.closure.instances_of.Given as goal

abbrev pub invariant-loop-n : goal.invariant-loop-n
invariant-loop-n l = l.list ≡ followed l.names l.pieces l.n
