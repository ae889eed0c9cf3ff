use Rattle.std.proofs.Common.{◌≡◌, take}
use Rattle.std.specs.Prelude.{sum_by}
use Rattle.al_typed.specs.Capped.{capped}
use Rattle.al_walk_calls.specs.Slots.{slot_of}
use Rattle.al_walk_calls.proofs.room.slots_of_frames.Given as goal

abbrev pub invariant-loop-frame : goal.invariant-loop-frame
invariant-loop-frame l = l.sum ≡ capped (sum_by (slot_of l.slots) (take l.frame-index l.row))
