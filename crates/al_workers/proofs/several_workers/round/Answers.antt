use Rattle.al_workers.proofs.Room.{merged_by_all}
use Rattle.al_workers.proofs.several_workers.round.Goals as goal

pub returns-clause-merged : goal.returns-clause-merged
returns-clause-merged g c =
    merged_by_all c.args.workers (record c.args.world { quota = c.args.quota }) c.allow.new.self c.together-world.result.0 c.alone-2.result.0 c.requires.some c.allow.ensures c.together-world.ensures.merged c.alone-2.ensures.later
