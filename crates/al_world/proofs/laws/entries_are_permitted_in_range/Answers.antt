use Rattle.al_world.proofs.Permits.{done_in_range, steps_where_permitted, runs_go_on, runs_go_through, is_never_spent}
use Rattle.al_world.proofs.laws.entries_are_permitted_in_range.Goals as goal

pub returns-clause-action : goal.returns-clause-action
returns-clause-action g c = done_in_range

pub returns-clause-entry : goal.returns-clause-entry
returns-clause-entry g c = steps_where_permitted _

pub returns-clause-along : goal.returns-clause-along
returns-clause-along g c = runs_go_on _

pub returns-clause-spent : goal.returns-clause-spent
returns-clause-spent g c = is_never_spent _

pub returns-clause-through : goal.returns-clause-through
returns-clause-through g c = runs_go_through _
