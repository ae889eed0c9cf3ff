use Rattle.al_meaning.proofs.Functions.{ask_as_told}
use Rattle.al_meaning.proofs.Finishing.{leave_nothing_open}
use Rattle.al_meaning.proofs.laws.tasks_ask_as_told.Goals as goal

pub returns-clause-told : goal.returns-clause-told
returns-clause-told c = ask_as_told

pub returns-clause-whole : goal.returns-clause-whole
returns-clause-whole c = leave_nothing_open
