use Rattle.al_script.specs.Worlds.{shared_of}
use Rattle.al_tasks.specs.Tables.{tasks_of}
use Rattle.al_step.proofs.Worlds.{text_is}
use Rattle.al_step.proofs.source.text.Goals as goal

pub returns : goal.returns
returns c =
    text_is c.args.source.now.program.now (shared_of c.args.source.now.made c.args.source.now.state) (tasks_of c.args.source.now.tasks) _ _ _ _ (c.in_ok-put_world.ensures c.args.source.now.made) c.new-out.ensures c.len.ensures
