use Rattle.al_control.specs.Models.{here_of, work_of}
use Rattle.al_walk_loops.proofs.Goings.{goes_same}
use Rattle.al_walk_loops.proofs.LoopSteps.{while_step}
use Rattle.al_walk_loops.proofs.loops.while_body.Goals as goal

pub returns-in_ok-again-in-While : goal.returns-in_ok-again-in-While
returns-in_ok-again-in-While c =
    goes_same c.starts_then.result _ _
    (while_step c.in-While.line c.in-While.condition c.in-While.body c.get.result.now c.args.s.now (work_of c.in_ok-again-in-While.again) (here_of c.args.h)
    c.in-While.is c.get.ensures c.in_ok-again-in-While.ensures)
    c.starts_then.ensures
