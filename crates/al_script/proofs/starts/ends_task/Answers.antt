use Rattle.std.proofs.Common.{ap}
use Rattle.al_world.specs.Procs.{Ended}
use Rattle.al_world.specs.World.{TaskName}
use Rattle.al_script.proofs.Ends.{ends_by}
use Rattle.al_script.proofs.starts.ends_task.Goals as goal

pub returns : goal.returns
returns c =
    ends_by c.args.made.now c.args.state c.args.task c.in_ok-procs.field-0 c.procs.inside.procs c.procs.inside.woke c.in_ok-told.told c.task.inside.proc (ap (λ (t : TaskName). t.proc) c.task.view_is) c.in_ok-procs.ensures (ap (λ (e : Ended TaskName). e.procs) c.procs.view_is) (ap (λ (e : Ended TaskName). e.woke) c.procs.view_is) c.in_ok-told.ensures
