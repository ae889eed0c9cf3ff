use Rattle.std.proofs.Common.{Some, cond, ap, ◌∙◌}
use Rattle.indexmap.specs.IndexMap.{get}
use Rattle.al_tasks.specs.Tables.{same_key}
use Rattle.al_tasks.proofs.TasksAre.{tasks-updated}
use Rattle.al_tasks.proofs.tasks.put_task.Goals as goal

pub returns : goal.returns
returns c =
    let before = get same_key c.args.tasks.now.map in
    tasks-updated c.args.task (Some c.args.held) before (get same_key c.insert.new.self) (λ q. c.in_ok-insert.ensures.updates.0 q ∙ ap (λ k. cond (same_key k q) (Some c.args.held) (before q)) c.key_of.ensures)
