use Rattle.std.proofs.Common.{◌≡◌, ◌∙◌, Some, None, ap}
use Rattle.al_typed.specs.Typed.{type_of}
use Rattle.al_convert.specs.Same.{pointed}
use Rattle.al_control.specs.Models.{here_of}
use Rattle.al_walk_values.proofs.CallWorks.{none_explained, behind_put, behind_explained}
use Rattle.al_walk_values.proofs.calls.with_pointer_object.Goals as goal

pub returns-in-None-clause-why : goal.returns-in-None-clause-why
returns-in-None-clause-why c =
    λ fits.
    none_explained c.args.h.program.now c.args.pointer.now c.args.path.now c.args.passed
    (c.in-None.ensures ∙ ap pointed (c.ty.ensures ∙ ap type_of c.get.ensures)) fits

pub returns-clause-next : goal.returns-clause-next
returns-clause-next c =
    let there : Some c.in-Some.to.now ≡ pointed (type_of c.args.pointer.now) = c.in-Some.ensures ∙ ap pointed (c.ty.ensures ∙ ap type_of c.get.ensures) in
    behind_put c.with_pointed_object.result c.args.h.program.now c.args.pointer.now c.in-Some.to.now c.args.path.now c.args.passed (here_of c.args.h) there
    c.with_pointed_object.ensures.next

pub returns-clause-why : goal.returns-clause-why
returns-clause-why c =
    let there : Some c.in-Some.to.now ≡ pointed (type_of c.args.pointer.now) = c.in-Some.ensures ∙ ap pointed (c.ty.ensures ∙ ap type_of c.get.ensures) in
    behind_explained c.with_pointed_object.result c.args.h.program.now c.args.pointer.now c.in-Some.to.now c.args.path.now c.args.passed there
    c.with_pointed_object.ensures.why
