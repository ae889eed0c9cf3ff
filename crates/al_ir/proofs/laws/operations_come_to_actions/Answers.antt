use Rattle.al_ir.proofs.Total.{come_to_actions}
use Rattle.al_ir.proofs.laws.operations_come_to_actions.Goals as goal

pub returns : goal.returns
returns c = come_to_actions
