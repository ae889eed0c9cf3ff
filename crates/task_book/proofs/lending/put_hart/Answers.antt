use Rattle.std.proofs.Common.{refl, Some, option_map}
use Rattle.task_book.specs.declared.proc.Task.{Task}
use Rattle.task_book.proofs.Harts.{set_changed}
use Rattle.task_book.proofs.lending.put_hart.Goals as goal

pub returns : goal.returns
returns c =
    set_changed (λ o. option_map (λ (x : Task). record x { hart = Some c.args.hart }) o) c.args.tasks.now c.args.slot (Some c.in-Some.task) _ c.index-tasks-slot.result (cc) refl
