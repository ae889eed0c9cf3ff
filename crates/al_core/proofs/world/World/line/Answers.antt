use Rattle.al_core.proofs.Standing.{line_is}
use Rattle.al_core.proofs.world.World.line.Goals as goal

pub returns : goal.returns
returns c = rw (← c.self.view_is) (line_is _ _ c.self.invariant.stands)
