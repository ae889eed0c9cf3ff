use Rattle.al_walk_statements.proofs.Turns.{turn_begun}
use Rattle.al_walk_statements.proofs.iterators.begin_turn.Goals as goal

pub returns : goal.returns
returns c =
    turn_begun c.does_two.result c.args.h c.args.number c.args.inner c.truncate.new.self c.push.new.self c.args.bounds c.args.rest c.in_ok-others.others c.args.e.now
    c.truncate.ensures c.in_ok-push.ensures.ok c.requires c.in_ok-others.ensures c.does_two.ensures
