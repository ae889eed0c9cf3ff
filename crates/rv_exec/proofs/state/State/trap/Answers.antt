use Rattle.rv_exec.proofs.Answering.{ready_trap}
use Rattle.rv_exec.proofs.state.State.trap.Goals as goal

pub returns-clause-ready : goal.returns-clause-ready
returns-clause-ready c = ready_trap _ _
