use Rattle.al_walk_calls.proofs.StackRoom.{slots_more, slots_over}
use Rattle.al_walk_calls.proofs.room.slots_of_frames.Goals as goal

pub loop-frame-preserved : goal.loop-frame-preserved
loop-frame-preserved c =
    slots_more c.args.slots.now c.backwards-row.result.now c.loop-frame.frame-index c.loop-frame.sum c.slots_of-own.result c.saturating_add-sum.result c.frame-item.result
    c.loop-frame-test.true c.frame-item.is c.loop-frame.invariant c.slots_of-own.ensures c.saturating_add-sum.ensures

pub returns : goal.returns
returns c =
    slots_over c.args.slots.now c.args.frames.now c.backwards-row.result.now c.loop-frame.frame-index c.loop-frame.sum c.backwards-row.ensures c.loop-frame-test.false
    c.loop-frame.invariant
