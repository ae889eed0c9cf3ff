use Rattle.rv_exec.proofs.Results.{none_of_some}
use Rattle.rv_exec.proofs.state.State.step.Goals as goal

pub returns-in-None-clause-work : goal.returns-in-None-clause-work
returns-in-None-clause-work c = none_of_some _ _ c.trap.ensures.some
