use Rattle.std.proofs.Common.{◌≡◌, ◌<◌, ℕ, false, get_or}
use Rattle.task_book.specs.declared.proc.Proc.{Proc}
use Rattle.task_book.specs.Procs.{runs}
use Rattle.task_book.proofs.proc.first_that_runs.Given as goal

-- none of the procs seen so far can run
abbrev pub invariant-loop-proc : goal.invariant-loop-proc
invariant-loop-proc l = (k : ℕ) (d : Proc) → k < l.proc-index → runs (get_or l.procs k d) ≡ false
