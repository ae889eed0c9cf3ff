use Rattle.rv_exec.proofs.Staying.{stays_proper}
use Rattle.rv_exec.proofs.laws.harts_stay_proper.Goals as goal

pub returns : goal.returns
returns c = stays_proper
