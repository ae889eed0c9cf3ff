use Rattle.al_world.proofs.Names.{is_once}
use Rattle.al_world.proofs.Accounts.{is_once_gone}
use Rattle.al_world.proofs.Handing.{is_taken, is_left_or_stays}
use Rattle.al_world.proofs.laws.talks_go_once.Goals as goal

pub returns-clause-once : goal.returns-clause-once
returns-clause-once g c = is_once _

pub returns-clause-taken : goal.returns-clause-taken
returns-clause-taken g c = is_taken

pub returns-clause-waits : goal.returns-clause-waits
returns-clause-waits g c = is_left_or_stays

pub returns-clause-gone : goal.returns-clause-gone
returns-clause-gone g c = is_once_gone _
