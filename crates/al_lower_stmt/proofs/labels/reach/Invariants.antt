use Rattle.std.proofs.Common.{◌≡◌, ℕ, ◌+◌, ◌-◌, length}
use Rattle.al_lower_stmt.specs.Leading.{noted}
use Rattle.al_lower_stmt.proofs.labels.reach.Given as goal

abbrev pub invariant-loop-places : goal.invariant-loop-places
invariant-loop-places l = (k : ℕ) → noted l.places k ≡ noted l.fn.places k

abbrev pub decreases-loop-places : goal.decreases-loop-places
decreases-loop-places l = l.count + 1 - length l.places
