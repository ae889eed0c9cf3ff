use Rattle.std.proofs.Common.{◌≡◌, length}
use Rattle.al_tree.specs.Types.{arrays}
use Rattle.al_parse_type.proofs.list.arrays.Given as goal

abbrev pub invariant-loop-bound : goal.invariant-loop-bound
invariant-loop-bound l = arrays l.at l.fn.bounds l.fn.of ≡ arrays l.at l.bounds l.of

abbrev pub decreases-loop-bound : goal.decreases-loop-bound
decreases-loop-bound l = length l.bounds
