use Rattle.std.proofs.Common.{◌∙◌, ℕ, List, ap, map, Some}
use Rattle.al_meaning.specs.Items as item
use Rattle.al_control.specs.Models.{entering_of, frame_of, next_of}
use Rattle.al_walk_calls.proofs.Choices.{begins_above, enters_there, enters_none}
use Rattle.al_walk_calls.proofs.Onward.{goes}
use Rattle.al_walk_calls.proofs.enters.enter_instead.Goals as goal

pub returns-then-has_room-clause-next : goal.returns-then-has_room-clause-next
returns-then-has_room-clause-next c =
    let control : item.Control = record { entering = Some (entering_of c.args.entering); frames = map frame_of c.args.frames } in
    goes c.begins.result next_of _ _
    (ap (λ (words : List ℕ). begins_above c.args.p.now c.args.entering.function words control.frames c.args.privates) c.as_slice.ensures.value
    ∙ enters_there c.args.p.now c.args.entering.function c.args.entering.words control control.frames c.args.privates c.if-has_room.ensures)
    c.begins.ensures.next

pub returns-clause-next : goal.returns-clause-next
returns-clause-next c =
    let control : item.Control = record { entering = Some (entering_of c.args.entering); frames = map frame_of c.args.frames } in
    c.overflows.ensures
    ∙ enters_none c.args.p.now c.args.entering.function c.args.entering.words control control.frames c.args.privates c.if-has_room.ensures
