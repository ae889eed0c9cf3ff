use Rattle.std.proofs.Common.{refl}
use Rattle.al_typed.proofs.Unions.{reaches_more, union_room}
use Rattle.al_typed.proofs.next_row.over_each_other.Goals as goal

pub loop-ty-preserved : goal.loop-ty-preserved
loop-ty-preserved c =
    let more =
    reaches_more c.args.aggregates.now c.args.types.now c.loop-ty.ty-index c.ty-item.result c.loop-ty.reach.size c.loop-ty.reach.align
    c.widened-reach.result.size c.widened-reach.result.align c.room_of.result c.loop-ty-test.true c.ty-item.is c.loop-ty.invariant.size
    c.loop-ty.invariant.align c.loop-ty.invariant.low c.room_of.ensures.value c.widened-reach.ensures.size c.widened-reach.ensures.align in
    record { size = more.bytes; align = more.aligned; low = more.low }

pub returns : goal.returns
returns c =
    let room =
    union_room c.args.aggregates.now c.args.types.now c.loop-ty.ty-index c.loop-ty.reach.size _ c.loop-ty.reach.align _ c.loop-ty-test.false
    c.loop-ty.invariant.size c.loop-ty.invariant.align c.loop-ty.invariant.low c.rounded-size.ensures refl in
    record { size = room.bytes; align = room.aligned; units = room.count }
