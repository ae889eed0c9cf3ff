use Rattle.std.proofs.Common.{refl, ◌∙◌}
use Rattle.al_typed.specs.declared.expression.TReceiver.TheVariants as receiver
use Rattle.al_control.specs.Models.{here_of}
use Rattle.al_walk_values.proofs.CallWorks.{object-Place, object-Value, object_put, object_becomes, object_why, object_why-Place}
use Rattle.al_walk_values.proofs.calls.with_receiver.Goals as goal

pub returns-in-Place-clause-next : goal.returns-in-Place-clause-next
returns-in-Place-clause-next c =
    object_put c.with_place_object.result c.args.h.program.now c.args.receiver.now _ _ (here_of c.args.h) c.in-Place.is
    (object-Place c.args.h.program.now c.in-Place.place c.in-Place.path c.in-Place.passed) c.with_place_object.ensures.next

pub returns-in-Place-clause-why : goal.returns-in-Place-clause-why
returns-in-Place-clause-why c =
    object_why-Place c.with_place_object.result c.args.h.program.now c.args.receiver.now c.in-Place.place c.in-Place.path c.in-Place.passed c.in-Place.is
    c.with_place_object.ensures.why

pub returns-in_ok-with_value_object-in-Value-clause-next : goal.returns-in_ok-with_value_object-in-Value-clause-next
returns-in_ok-with_value_object-in-Value-clause-next c =
    c.in_ok-with_value_object-in-Value.ensures
    ∙ object_becomes c.args.h.program.now c.args.receiver.now _ _ (here_of c.args.h) c.in-Value.is
    (object-Value c.args.h.program.now c.in-Value.value c.in-Value.path c.in-Value.passed)

pub returns-in-Pointer-clause-next : goal.returns-in-Pointer-clause-next
returns-in-Pointer-clause-next c =
    object_put c.with_pointer_object.result c.args.h.program.now c.args.receiver.now (receiver.Pointer c.in-Pointer.pointer c.in-Pointer.path c.in-Pointer.passed) _
    (here_of c.args.h) c.in-Pointer.is refl c.with_pointer_object.ensures.next

pub returns-in-Pointer-clause-why : goal.returns-in-Pointer-clause-why
returns-in-Pointer-clause-why c =
    object_why c.with_pointer_object.result c.args.h.program.now c.args.receiver.now (receiver.Pointer c.in-Pointer.pointer c.in-Pointer.path c.in-Pointer.passed)
    c.in-Pointer.is c.with_pointer_object.ensures.why
