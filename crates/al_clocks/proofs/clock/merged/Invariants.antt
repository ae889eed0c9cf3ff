use Rattle.std.proofs.Common.{◌≡◌, ℕ, ◌<◌, length, get_or}
use Rattle.std.specs.Prelude.{max}
use Rattle.al_clocks.specs.Bounds.{bounds}
use Rattle.al_clocks.proofs.clock.merged.Given as goal

abbrev pub invariant-loop-proc : goal.invariant-loop-proc
invariant-loop-proc l = record {
  long : length l.all.items ≡ l.proc;
  each : (k : ℕ) → k < l.proc → get_or l.all.items k 0 ≡ max (get_or l.row k 0) (bounds l.clock k);
}
