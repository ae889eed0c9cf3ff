use Rattle.al_until_last.proofs.Answerable.{have_no_answer}
use Rattle.al_until_last.proofs.laws.last_actions_have_no_answer.Goals as goal

pub returns : goal.returns
returns g c = have_no_answer _
