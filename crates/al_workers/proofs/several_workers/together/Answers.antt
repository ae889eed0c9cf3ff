use Rattle.al_workers.proofs.Room.{untouched}
use Rattle.al_workers.proofs.several_workers.together.Goals as goal

pub returns-clause-merged : goal.returns-clause-merged
returns-clause-merged g c = untouched c.args.workers c.args.world c.in-Err.world c.in-Err.ensures.err
