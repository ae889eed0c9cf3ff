use Rattle.al_core.proofs.Standing.{runs_some}
use Rattle.al_core.proofs.Lawful.{lawful}
use Rattle.al_core.proofs.world.World.entries.Goals as goal

pub returns-clause-runs : goal.returns-clause-runs
returns-clause-runs c = rw (← c.self.view_is) (runs_some _ _ c.self.invariant.stands)

pub returns-clause-lawful : goal.returns-clause-lawful
returns-clause-lawful c = lawful c.args.self.now
