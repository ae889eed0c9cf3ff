use Rattle.al_meaning.proofs.Total.{come_to_actions}
use Rattle.al_meaning.proofs.laws.tasks_come_to_actions.Goals as goal

pub returns : goal.returns
returns c = come_to_actions
