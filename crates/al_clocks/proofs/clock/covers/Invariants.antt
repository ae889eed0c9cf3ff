use Rattle.std.proofs.Common.{ℕ, ◌<◌, ◌≤◌, get_or}
use Rattle.al_clocks.specs.Bounds.{bounds}
use Rattle.al_clocks.proofs.clock.covers.Given as goal

abbrev pub invariant-loop-proc : goal.invariant-loop-proc
invariant-loop-proc l = (k : ℕ) → k < l.proc → bounds l.clock k ≤ get_or l.row k 0
