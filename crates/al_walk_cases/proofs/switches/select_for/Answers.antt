use Rattle.al_control.specs.Models.{here_of}
use Rattle.al_walk_loops.proofs.Goings.{goes_same}
use Rattle.al_walk_cases.proofs.CaseSteps.{select_step}
use Rattle.al_walk_cases.proofs.switches.select_for.Goals as goal

pub returns-in-Switch : goal.returns-in-Switch
returns-in-Switch c =
    goes_same c.select_in.result _ _
    (select_step c.in-Switch.line c.args.bits c.in-Switch.value c.in-Switch.body c.as_slice.result.now c.args.s.now (here_of c.args.h) c.in-Switch.is
    c.as_slice.ensures.value)
    c.select_in.ensures
