use Rattle.al_script.proofs.Opens.{opens}
use Rattle.al_script.proofs.step.opening.Goals as goal

pub returns : goal.returns
returns c = λ functions.
    opens functions c.args.region c.args.start.now c.in_ok-new.field-0 c.in_ok-begun.field-0 c.in_ok-state.state c.in_ok-state.made c.in_ok-tasks.tasks c.in_ok-new.ensures.empty c.in_ok-state.ensures c.in_ok-begun.ensures c.in_ok-tasks.ensures
