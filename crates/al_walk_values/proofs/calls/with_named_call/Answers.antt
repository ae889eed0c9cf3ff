use Rattle.std.proofs.Common.{◌≡◌, ◌+◌, length}
use Rattle.al_meaning.specs.Calls.{object_count}
use Rattle.al_control.specs.Models.{work_of}
use Rattle.al_walk_values.specs.CallForms.{then_of}
use Rattle.al_walk_values.proofs.CallWorks.{call_put, call_explained}
use Rattle.al_walk_values.proofs.calls.with_named_call.Goals as goal

pub returns-clause-next : goal.returns-clause-next
returns-clause-next c =
    let done
    : work_of c.then_work.result ≡ then_of c.args.then c.args.function (object_count c.args.receiver.now + length c.args.arguments.now)
    = cc (c.then_work.ensures, c.object_count.ensures.count)
    in
    call_put c.with_object.result c.args.receiver.now c.args.arguments.now _ _ c.args.h c.in_ok-h.h c.in_ok-h.ensures done c.with_object.ensures.next

pub returns-clause-why : goal.returns-clause-why
returns-clause-why c =
    call_explained c.with_object.result c.args.receiver.now c.args.arguments.now _ c.args.h c.in_ok-h.h c.in_ok-h.ensures c.with_object.ensures.why
