use Rattle.al_walk_statements.proofs.Rests.{goes_rest}
use Rattle.al_walk_statements.proofs.statements.do_continue.Goals as goal

pub returns : goal.returns
returns c = goes_rest c.moves.result c.args.h c.next_of_loop.new.items _ c.in_ok-next_of_loop.ensures c.moves.ensures
