use Rattle.std.proofs.Common.{◌∙◌, sym}
use Rattle.task_book.proofs.Items.{item_index}
use Rattle.task_book.proofs.Places.{runs_at}
use Rattle.task_book.proofs.proc.next_that_runs.Goals as goal

pub returns-then-can_run : goal.returns-then-can_run
returns-then-can_run c =
    runs_at c.args.procs.now c.loop-proc.proc-index c.proc-item.result c.requires (item_index c.args.procs.now c.loop-proc.proc-index c.proc-item.result c.loop-proc-test.true c.proc-item.is) (sym c.can_run.ensures ∙ c.if-can_run.true)
