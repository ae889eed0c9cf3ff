use Rattle.std.proofs.Common.{[], ◌∷◌, ◌∙◌}
use Rattle.al_meaning.specs.Here.{control_at, with_work}
use Rattle.al_meaning.specs.Items.{Answered}
use Rattle.al_control.specs.Models.{here_of, next_of}
use Rattle.al_walk_calls.proofs.Choices.{enters_there, enters_none}
use Rattle.al_walk_calls.proofs.Onward.{goes}
use Rattle.al_walk_calls.proofs.enters.enter.Goals as goal

pub returns-then-has_room_here-clause-next : goal.returns-then-has_room_here-clause-next
returns-then-has_room_here-clause-next c =
    let h = here_of c.args.h in
    goes c.begins_here.result next_of _ _
    (enters_there h.program c.args.function c.args.words (control_at (with_work (Answered ∷ []) h)) (h.frame ∷ h.below) h.privates c.if-has_room_here.ensures)
    c.begins_here.ensures.next

pub returns-in_ok-enters_none-clause-next : goal.returns-in_ok-enters_none-clause-next
returns-in_ok-enters_none-clause-next c =
    let h = here_of c.args.h in
    c.in_ok-enters_none.ensures
    ∙ enters_none h.program c.args.function c.args.words (control_at (with_work (Answered ∷ []) h)) (h.frame ∷ h.below) h.privates c.if-has_room_here.ensures
