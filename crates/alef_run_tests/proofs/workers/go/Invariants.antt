use Rattle.std.proofs.Common.{◌≡◌, ◌+◌, ◌≤◌, length}
use Rattle.al_core.specs.History.{away}
use Rattle.alef_run_tests.proofs.workers.go.Given as goal

abbrev pub invariant-loop-entry : goal.invariant-loop-entry
invariant-loop-entry g l = record {
  here : away l.world ≡ 0;
  room : length l.world.entries ≤ length l.fn.world.entries + l.entry-index;
  quota : l.world.quota ≡ l.fn.world.quota;
}
