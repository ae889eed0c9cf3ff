use Rattle.al_core.proofs.Standing.{output_is}
use Rattle.al_core.proofs.world.World.output.Goals as goal

pub returns : goal.returns
returns c = rw (c.output.ensures, ← c.self.view_is) (output_is _ _ c.self.invariant.stands)
