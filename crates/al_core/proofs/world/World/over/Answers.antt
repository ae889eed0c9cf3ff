use Rattle.al_core.proofs.Standing.{over_is, unspent}
use Rattle.al_core.proofs.world.World.over.Goals as goal

pub returns-clause-over : goal.returns-clause-over
returns-clause-over c = rw (← c.self.view_is) (over_is _ _ c.self.invariant.stands)

pub returns-clause-unspent : goal.returns-clause-unspent
returns-clause-unspent c = unspent _ _ c.self.invariant.stands
