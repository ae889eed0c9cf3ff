use Rattle.al_core.proofs.Standing.{work_is}
use Rattle.al_core.proofs.world.World.work.Goals as goal

pub returns : goal.returns
returns c = rw (← c.self.view_is) (work_is _ _ c.self.invariant.stands)
