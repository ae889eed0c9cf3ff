use Rattle.std.proofs.Common.{◌≡◌, ◌-◌, refl, Some, option_map, arith, slice_get}
use Rattle.task_book.specs.declared.proc.Task.{Task}
use Rattle.task_book.proofs.Harts.{set_changed, some_task}
use Rattle.task_book.proofs.ending.drop_branch.Goals as goal

pub overflow_sub-task : goal.overflow_sub-task
overflow_sub-task c =
    let e : slice_get c.args.tasks.now c.args.slot ≡ Some (Some c.in-Some.task) = some_task c.args.tasks.now c.args.slot c.in-Some.task c.index-tasks-slot.result c.requires.lives (cc) in
    omega (arith, c.requires.some c.in-Some.task e)

pub returns : goal.returns
returns c =
    set_changed (λ o. option_map (λ (x : Task). record x { branches = x.branches - 1 }) o) c.args.tasks.now c.args.slot (Some c.in-Some.task) _ c.index-tasks-slot.result (cc) refl
