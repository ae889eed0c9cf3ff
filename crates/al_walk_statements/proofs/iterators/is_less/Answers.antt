use Rattle.al_walk_statements.proofs.Comparisons.{less_is, never_none}
use Rattle.al_walk_statements.proofs.iterators.is_less.Goals as goal

pub returns-in-Some : goal.returns-in-Some
returns-in-Some c = less_is c.args.a c.args.b c.in-Some.less c.in-Some.ensures.value

pub returns-in-None : goal.returns-in-None
returns-in-None c = absurd (never_none c.args.a c.args.b c.in-None.ensures.value)
