use Rattle.al_world.proofs.Runs.{is_blind}
use Rattle.al_world.proofs.laws.schedules_determine_runs.Goals as goal

pub returns-clause-workers : goal.returns-clause-workers
returns-clause-workers g c = is_blind _
