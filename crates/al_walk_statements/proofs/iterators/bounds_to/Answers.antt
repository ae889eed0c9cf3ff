use Rattle.al_walk_statements.proofs.TakenBounds.{fewer, one_left, two_left}
use Rattle.al_walk_statements.proofs.iterators.bounds_to.Goals as goal

pub returns-in-None : goal.returns-in-None
returns-in-None c = one_left c.args.from c.args.values.now c.in-None.ensures.0

pub returns-in-Some : goal.returns-in-Some
returns-in-Some c = (
  two_left c.args.from c.in-Some.to c.args.values.now c.pop.new.self c.bounds_between.result c.in-Some.ensures c.bounds_between.ensures,
  fewer c.args.from c.in-Some.to c.args.values.now c.pop.new.self c.in-Some.ensures,
)
