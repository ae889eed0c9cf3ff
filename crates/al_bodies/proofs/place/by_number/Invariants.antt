use Rattle.std.proofs.Common.{◌≡◌, ◌++◌, List, length}
use Rattle.al_type_function.specs.declared.branch.NumberedBranch.{NumberedBranch}
use Rattle.al_bodies.specs.Placing.{by_number}
use Rattle.al_bodies.proofs.place.by_number.Given as goal

abbrev pub invariant-loop-branch : goal.invariant-loop-branch
invariant-loop-branch l =
    (placed : List NumberedBranch) × (l.fn.branches ≡ l.branches ++ placed) × (l.places ≡ by_number l.from (length l.fn.branches) placed)

abbrev pub decreases-loop-branch : goal.decreases-loop-branch
decreases-loop-branch l = length l.branches
