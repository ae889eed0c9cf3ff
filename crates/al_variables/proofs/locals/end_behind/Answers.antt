use Rattle.std.proofs.Common.{◌≡◌, ◌+◌, arith}
use Rattle.al_typed.specs.Capped.{capped}
use Rattle.al_typed.specs.Layout.{rounded}
use Rattle.al_variables.proofs.Placements.{shared_more}
use Rattle.al_variables.proofs.locals.end_behind.Goals as goal

pub returns : goal.returns
returns c =
    let room = c.room_of-room.result in
    let moved : c.saturating_add.result ≡ capped (capped (rounded c.args.end room.align) + room.size) = omega (arith, c.rounded.ensures, c.saturating_add.ensures) in
    λ at e.
    shared_more c.args.rows.now at c.args.end room.size room.align c.saturating_add.result c.args.local.now c.if-not-local.false e
    c.room_of-room.ensures.value.align c.room_of-room.ensures.align c.room_of-room.ensures.value.size moved
