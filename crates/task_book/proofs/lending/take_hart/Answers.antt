use Rattle.std.proofs.Common.{sym, ap, Some, None, Option, option_map}
use Rattle.rv_exec.specs.declared.run.Hart.{Hart}
use Rattle.task_book.specs.declared.proc.Task.{Task}
use Rattle.task_book.proofs.Harts.{set_changed}
use Rattle.task_book.proofs.lending.take_hart.Goals as goal

pub returns-clause-tasks : goal.returns-clause-tasks
returns-clause-tasks c =
    set_changed (λ o. option_map (λ (x : Task). record x { hart = None }) o) c.args.tasks.now c.args.slot (Some c.in-Some.task) _ c.index-tasks-slot.result (cc) (ap (λ (h : Option Hart). Some (record c.in-Some.task { hart = h })) (sym c.take.ensures.after))
