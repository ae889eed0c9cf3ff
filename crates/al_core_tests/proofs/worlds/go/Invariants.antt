use Rattle.std.proofs.Common.{◌≡◌, ◌+◌, ◌≤◌, length}
use Rattle.al_core.specs.History.{away}
use Rattle.al_core_tests.proofs.worlds.go.Given as goal

abbrev pub invariant-loop-proc : goal.invariant-loop-proc
invariant-loop-proc g l = record {
  here : away l.world ≡ 0;
  room : length l.world.entries ≤ length l.fn.world.entries + l.proc-index;
  quota : l.world.quota ≡ l.fn.world.quota;
  limit : l.world.limit ≡ l.fn.world.limit;
}
