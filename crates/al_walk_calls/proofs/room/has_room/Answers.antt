use Rattle.al_walk_calls.proofs.StackRoom.{room}
use Rattle.al_walk_calls.proofs.room.has_room.Goals as goal

pub returns : goal.returns
returns c =
    room c.args.p.now c.args.slots.now c.args.number c.args.frames.now c.slots_of_frames-taken.result c.slots_of-own.result c.saturating_add-all.result c.requires
    c.slots_of_frames-taken.ensures c.slots_of-own.ensures c.saturating_add-all.ensures
