use Rattle.al_script.specs.Worlds.{shared_of}
use Rattle.al_tasks.specs.Tables.{tasks_of}
use Rattle.al_step_text.proofs.RangesAre.{puts_more, proc-more}
use Rattle.al_step_text.proofs.text.put_proc.Goals as goal

pub loop-number-preserved : goal.loop-number-preserved
loop-number-preserved c =
    λ made.
    puts_more _ _ _ _ _ _ (c.in_ok-put_task.ensures made) (c.loop-number.invariant made) (proc-more c.args.p.now (shared_of made c.args.state.now) (tasks_of c.args.tasks.now) c.args.proc c.loop-number.number)
