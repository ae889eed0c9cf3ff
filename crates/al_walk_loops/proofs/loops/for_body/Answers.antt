use Rattle.al_control.specs.Models.{here_of, work_of}
use Rattle.al_walk_loops.proofs.Goings.{goes_same}
use Rattle.al_walk_loops.proofs.LoopSteps.{for_body_step}
use Rattle.al_walk_loops.proofs.loops.for_body.Goals as goal

pub returns-in_ok-next-in-For : goal.returns-in_ok-next-in-For
returns-in_ok-next-in-For c =
    goes_same c.starts_then.result _ _
    (for_body_step c.in-For.line c.in-For.start c.in-For.condition c.in-For.step c.in-For.body c.get.result.now c.args.s.now
    (work_of c.in_ok-next-in-For.next) (here_of c.args.h) c.in-For.is c.get.ensures c.in_ok-next-in-For.ensures)
    c.starts_then.ensures
