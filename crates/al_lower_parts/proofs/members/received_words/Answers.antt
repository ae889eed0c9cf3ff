use Rattle.std.proofs.Common.{ap, ◌∙◌}
use Rattle.al_lower_code.specs.Coded.{Given}
use Rattle.al_lower_base.specs.Spots.{spot_of}
use Rattle.al_lower_operands.proofs.Forms.{received_object-Place, received_object-Value, received_object-Pointer}
use Rattle.al_lower_parts.proofs.Passing.{object_at_words, given_words}
use Rattle.al_lower_parts.proofs.members.received_words.Goals as goal

pub returns-in-Place : goal.returns-in-Place
returns-in-Place c =
    given_words c.place_object_words.result (spot_of c.args.s) c.args.receiver.now _ _ c.in-Place.is
    (ap (λ (g : Given). g.words) (received_object-Place (spot_of c.args.s) c.in-Place.place c.in-Place.path c.in-Place.passed) ∙ object_at_words (spot_of c.args.s) c.in-Place.passed _ _) c.place_object_words.ensures

pub returns-in-Value : goal.returns-in-Value
returns-in-Value c =
    given_words c.value_object_words.result (spot_of c.args.s) c.args.receiver.now _ _ c.in-Value.is
    (ap (λ (g : Given). g.words) (received_object-Value (spot_of c.args.s) c.in-Value.value c.in-Value.path c.in-Value.passed)) c.value_object_words.ensures

pub returns-in-Pointer : goal.returns-in-Pointer
returns-in-Pointer c =
    given_words c.pointed_object_words.result (spot_of c.args.s) c.args.receiver.now _ _ c.in-Pointer.is
    (ap (λ (g : Given). g.words) (received_object-Pointer (spot_of c.args.s) c.in-Pointer.pointer c.in-Pointer.path c.in-Pointer.passed) ∙ object_at_words (spot_of c.args.s) c.in-Pointer.passed _ _) c.pointed_object_words.ensures
