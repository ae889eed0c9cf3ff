use Rattle.al_walk_statements.proofs.Rests.{goes_rest}
use Rattle.al_walk_statements.proofs.statements.do_break.Goals as goal

pub returns : goal.returns
returns c = goes_rest c.moves.result c.args.h c.behind_bodies.new.items _ c.behind_bodies.ensures c.moves.ensures
