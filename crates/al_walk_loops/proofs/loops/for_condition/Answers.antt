use Rattle.al_control.specs.Models.{here_of}
use Rattle.al_walk_loops.proofs.Goings.{goes_same}
use Rattle.al_walk_loops.proofs.LoopSteps.{for_step}
use Rattle.al_walk_loops.proofs.loops.for_condition.Goals as goal

pub returns-in-For : goal.returns-in-For
returns-in-For c =
    goes_same c.begin_round.result _ _
    (for_step c.in-For.line c.in-For.start c.in-For.condition c.in-For.step c.in-For.body c.get.result.now c.args.s.now (here_of c.args.h) c.in-For.is
    c.get.ensures)
    c.begin_round.ensures
