use Rattle.store_lock.specs.Passes.{pass_number}
use Rattle.lock_trial.specs.Working.{IsWorkersPass}
use Rattle.lock_trial.proofs.tests.work.Given as goal

abbrev pub invariant-loop-number : goal.invariant-loop-number
invariant-loop-number g l = IsWorkersPass l.lock (pass_number l.initial.worker.pass) l.worker.pass
