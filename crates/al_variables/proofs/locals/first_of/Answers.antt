use Rattle.al_variables.proofs.Placements.{first_here}
use Rattle.al_variables.proofs.locals.first_of.Goals as goal

pub returns-then-local : goal.returns-then-local
returns-then-local c =
    λ at e.
    first_here c.args.rows.now at c.args.end c.room_of.result.align c.rounded.result c.args.locals.now c.loop-local.local-index c.local-item.result
    c.loop-local-test.true c.local-item.is c.if-local.true e c.room_of.ensures.value.align c.room_of.ensures.align c.rounded.ensures
    (c.loop-local.invariant at)
