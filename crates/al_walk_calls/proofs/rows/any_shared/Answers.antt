use Rattle.al_walk_calls.proofs.SharedLocals.{shared_there}
use Rattle.al_walk_calls.proofs.rows.any_shared.Goals as goal

pub returns-then-local : goal.returns-then-local
returns-then-local c =
    shared_there c.args.locals.now c.loop-local.local-index c.local-item.result c.loop-local-test.true c.local-item.is c.if-local.true
