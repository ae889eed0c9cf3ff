use Rattle.al_control.specs.Models.{here_of}
use Rattle.al_walk_values.specs.CallForms.{then_of}
use Rattle.al_walk_values.proofs.CallWorks.{named_put, named_why}
use Rattle.al_walk_values.proofs.calls.with_call.Goals as goal

pub returns-in-Call-clause-next : goal.returns-in-Call-clause-next
returns-in-Call-clause-next c =
    named_put c.with_named_call.result c.args.h.program.now c.args.e.now c.in-Call.ty c.in-Call.function c.in-Call.receiver c.as_slice.result.now c.in-Call.arguments
    (then_of c.args.then) (here_of c.args.h) c.in-Call.is c.as_slice.ensures.value c.with_named_call.ensures.next

pub returns-in-Call-clause-why : goal.returns-in-Call-clause-why
returns-in-Call-clause-why c =
    named_why c.with_named_call.result c.args.h.program.now c.args.e.now c.in-Call.ty c.in-Call.function c.in-Call.receiver c.in-Call.arguments c.in-Call.is
    c.with_named_call.ensures.why
