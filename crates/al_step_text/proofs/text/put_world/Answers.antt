use Rattle.al_script.specs.Worlds.{shared_of}
use Rattle.al_tasks.specs.Tables.{tasks_of}
use Rattle.al_step_text.proofs.Whole.{text_is}
use Rattle.al_step_text.proofs.text.put_world.Goals as goal

pub returns : goal.returns
returns c =
    λ made.
    text_is c.args.p.now (shared_of made c.args.state.now) (tasks_of c.args.tasks.now) c.args.entries c.len.result _ _ _ _ _ _ c.len.ensures c.in_ok-put_head.ensures (c.in_ok-put_procs.ensures made) c.in_ok-put_channels.ensures c.in_ok-put_blocks.ensures c.in_ok-put_output.ensures
