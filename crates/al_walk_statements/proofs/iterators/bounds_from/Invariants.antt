use Rattle.std.proofs.Common.{◌≡◌, ◌++◌, length, map}
use Rattle.al_meaning.specs.Execute as spec
use Rattle.al_control.specs.Models.{bounds_of}
use Rattle.al_walk_statements.proofs.iterators.bounds_from.Given as goal

abbrev pub invariant-loop-bounds : goal.invariant-loop-bounds
invariant-loop-bounds l = map bounds_of l.all ++ spec.bounds_of l.values ≡ spec.bounds_of l.fn.values

abbrev pub decreases-loop-bounds : goal.decreases-loop-bounds
decreases-loop-bounds l = length l.values
