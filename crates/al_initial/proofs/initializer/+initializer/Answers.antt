use Rattle.std.proofs.Common.{map}
use Rattle.std.proofs.lemmas.Result.{err_from_is_err_and}
use Rattle.al_initial.specs.Initializers.{initializer, members, all_started}
use Rattle.al_initial.proofs.PartsAre.{member-fault}
use Rattle.al_initial.proofs.initializer.+initializer.Goals as goal

pub members-returns-in_err-values : goal.members-returns-in_err-values
members-returns-in_err-values t c =
    let p = err_from_is_err_and c.from_residual.result c.from_residual.ensures.1 in
    let room = rw c.as_slice.ensures.value at c.room_of-room.ensures.value in
    let left = c.loop-i.invariant in
    rw (p.1, p.2)
    (member-fault (initializer c.args.env.now c.args.here.now c.args.adts.now) c.args.list.now c.args.env.now.aggregates c.args.offset
    (all_started (map (initializer c.args.env.now c.args.here.now c.args.adts.now) c.args.list.now) (members c.args.env.now.aggregates c.args.types.now) c.args.offset)
    left.front c.loop-i.i-index c.loop-i.end c.i-item.result c.in-Some.parts.0.now c.loop-i.types.now c.in-Some.parts.1.now c.room_of-room.result
    c.rounded-at.result c.saturating_add.result c.loop-i.done c.in_err-values.field-0.0 c.loop-i-test.true c.i-item.is c.in-Some.ensures.cases.0
    room c.room_of-room.ensures.align c.rounded-at.ensures c.saturating_add.ensures c.in_err-values.ensures left.kept left.so_far)
