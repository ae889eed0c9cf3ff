use Rattle.std.proofs.Common.{◌≡◌}
use Rattle.store_lock.specs.Passes.{pass_number}
use Rattle.al_workers.specs.Working.{IsWorkersPass, IsLentTo}
use Rattle.al_workers.proofs.worker.go_on.Given as goal

abbrev pub invariant-loop : goal.invariant-loop
invariant-loop g l = record {
  pass : IsWorkersPass l.lock (pass_number l.initial.worker.pass) l.worker.pass;
  lent : IsLentTo l.lock l.worker.pass l.held;
  lack : l.worker.lack ≡ l.initial.worker.lack;
}
