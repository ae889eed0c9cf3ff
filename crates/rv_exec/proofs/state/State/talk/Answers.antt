use Rattle.std.proofs.Common.{refl}
use Rattle.rv_exec.proofs.Answering.{ready_talk}
use Rattle.rv_exec.proofs.state.State.talk.Goals as goal

pub returns-clause-ready : goal.returns-clause-ready
returns-clause-ready c = ready_talk _ _ c.requires.near refl c.requires.room
