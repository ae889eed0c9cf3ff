use Rattle.std.proofs.Common.{None, cond, ap, ◌∙◌}
use Rattle.indexmap.specs.IndexMap.{get}
use Rattle.al_tasks.specs.Tables.{same_key, task_held}
use Rattle.al_tasks.proofs.TasksAre.{tasks-updated}
use Rattle.al_tasks.proofs.tasks.take_task.Goals as goal

pub returns-clause-taken : goal.returns-clause-taken
returns-clause-taken c = ap task_held (c.swap_remove.ensures.value ∙ ap (get same_key c.args.tasks.now.map) c.key_of.ensures)

pub returns-clause-others : goal.returns-clause-others
returns-clause-others c =
    let before = get same_key c.args.tasks.now.map in
    tasks-updated c.args.task None before (get same_key c.swap_remove.new.self) (λ q. c.swap_remove.ensures.updates.0 q ∙ ap (λ k. cond (same_key k q) None (before q)) c.key_of.ensures)
