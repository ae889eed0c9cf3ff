use Rattle.std.proofs.Common.{◌≡◌, length, ◌+◌, ◌-◌}
use Rattle.al_script.specs.Worlds.{counts_of}
use Rattle.al_script.proofs.counts.with_place.Given as goal

abbrev pub invariant-loop-counts : goal.invariant-loop-counts
invariant-loop-counts l = counts_of l.counts ≡ counts_of l.fn.counts

abbrev pub decreases-loop-counts : goal.decreases-loop-counts
decreases-loop-counts l = l.proc + 1 - length l.counts
