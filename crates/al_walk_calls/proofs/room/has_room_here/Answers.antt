use Rattle.al_walk_calls.proofs.StackRoom.{room_here}
use Rattle.al_walk_calls.proofs.room.has_room_here.Goals as goal

pub returns : goal.returns
returns c =
    room_here c.args.h.now.program.now c.args.slots.now c.args.number c.args.h.now.frame c.args.h.now.below c.slots_of_frames-below.result c.slots_of-first.result
    c.saturating_add-taken.result c.slots_of-own.result c.saturating_add-all.result c.requires c.slots_of_frames-below.ensures c.slots_of-first.ensures
    c.saturating_add-taken.ensures c.slots_of-own.ensures c.saturating_add-all.ensures
