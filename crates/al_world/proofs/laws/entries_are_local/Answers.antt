use Rattle.al_world.proofs.Roles.{is_local_everywhere, is_local_along}
use Rattle.al_world.proofs.Permits.{is_still_lent}
use Rattle.al_world.proofs.laws.entries_are_local.Goals as goal

pub returns-clause-along : goal.returns-clause-along
returns-clause-along g c = is_local_along _

pub returns-clause-entry : goal.returns-clause-entry
returns-clause-entry g c = is_local_everywhere _

pub returns-clause-lent : goal.returns-clause-lent
returns-clause-lent g c = is_still_lent _
