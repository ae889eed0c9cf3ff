use Rattle.al_step_text.proofs.RangesAre.{nothing_held}
use Rattle.al_step_text.proofs.text.put_held.Goals as goal

pub returns-in-None : goal.returns-in-None
returns-in-None c = rw c.in-None.is (nothing_held c.args.p.now c.args.out.now)
