use Rattle.al_world.proofs.Roles.{is_ready_to_go}
use Rattle.al_world.proofs.laws.ready_tasks_go.Goals as goal

pub returns : goal.returns
returns g c = is_ready_to_go _
