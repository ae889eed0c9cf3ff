use Rattle.std.proofs.Common.{◌∙◌, sym, arith}
use Rattle.task_book.proofs.Items.{item_index}
use Rattle.task_book.proofs.Places.{runs_at}
use Rattle.task_book.proofs.Turns.{one_more_not}
use Rattle.task_book.proofs.proc.first_that_runs.Goals as goal

pub loop-proc-init : goal.loop-proc-init
loop-proc-init c = λ k d lt. absurd (omega arith)

pub loop-proc-preserved : goal.loop-proc-preserved
loop-proc-preserved c =
    one_more_not c.args.procs.now c.loop-proc.proc-index c.proc-item.result c.loop-proc.invariant c.loop-proc-test.true c.proc-item.is (sym c.can_run.ensures ∙ c.if-can_run.false)

pub returns-clause-none : goal.returns-clause-none
returns-clause-none c = λ k d lt. c.loop-proc.invariant k d (omega (arith, lt, c.loop-proc-test.false))

pub returns-then-can_run-clause-some : goal.returns-then-can_run-clause-some
returns-then-can_run-clause-some c =
    runs_at c.args.procs.now c.loop-proc.proc-index c.proc-item.result c.requires (item_index c.args.procs.now c.loop-proc.proc-index c.proc-item.result c.loop-proc-test.true c.proc-item.is) (sym c.can_run.ensures ∙ c.if-can_run.true)
