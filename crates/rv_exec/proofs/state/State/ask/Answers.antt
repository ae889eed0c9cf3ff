use Rattle.rv_exec.proofs.Answering.{ready_plain}
use Rattle.rv_exec.proofs.state.State.ask.Goals as goal

pub returns-clause-ready : goal.returns-clause-ready
returns-clause-ready c = ready_plain _ _ c.requires.room c.requires.waits
