use Rattle.al_core.proofs.Standing.{dropped_within}
use Rattle.al_core.proofs.world.World.dropped.Goals as goal

pub returns-clause-within : goal.returns-clause-within
returns-clause-within c = rw (← c.self.view_is) (dropped_within _ _ c.self.invariant.stands)
