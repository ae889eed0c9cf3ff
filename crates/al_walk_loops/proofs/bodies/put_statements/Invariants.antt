use Rattle.std.proofs.Common.{◌≡◌, ◌++◌, drop, map}
use Rattle.al_control.specs.Models.{item_of}
use Rattle.al_walk_loops.specs.BodyParts.{statements_in}
use Rattle.al_walk_loops.proofs.bodies.put_statements.Given as goal

abbrev pub invariant-loop-k : goal.invariant-loop-k
invariant-loop-k l = map item_of l.items ≡ statements_in (drop l.k l.body) ++ map item_of l.fn.items
