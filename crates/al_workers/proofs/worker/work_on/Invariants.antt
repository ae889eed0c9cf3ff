use Rattle.std.proofs.Common.{◌≡◌, None}
use Rattle.store_lock.specs.Passes.{pass_number, loan}
use Rattle.al_workers.specs.Working.{IsWorkersPass}
use Rattle.al_workers.proofs.worker.work_on.Given as goal

abbrev pub invariant-loop : goal.invariant-loop
invariant-loop g l = record {
  pass : IsWorkersPass l.lock (pass_number l.initial.worker.pass) l.worker.pass;
  idle : loan l.worker.pass ≡ None;
  lack : l.worker.lack ≡ None;
}
