use Rattle.std.proofs.Common.{◌∙◌}
use Rattle.al_control.specs.Models.{here_of, next_of}
use Rattle.al_walk_actions.proofs.Onward.{explained, goes}
use Rattle.al_walk_actions.proofs.TypeForms.{allocates-pointer, allocates-chan, pointer_fits, chan_fits, allocates-Void, allocates-Integer, allocates-Array, allocates-Tuple, allocates-Aggregate, allocates-Function}
use Rattle.al_walk_actions.proofs.allocations.allocate.Goals as goal

pub returns-in-Pointer-clause-next : goal.returns-in-Pointer-clause-next
returns-in-Pointer-clause-next c =
    goes c.alloc_block.result next_of _ _ (allocates-pointer c.args.ty.now _ c.get-to.result.now (here_of c.args.h) c.in-Pointer.is c.get-to.ensures) c.alloc_block.ensures.next

pub returns-in-Pointer-clause-why : goal.returns-in-Pointer-clause-why
returns-in-Pointer-clause-why c =
    explained c.alloc_block.result _ _ (pointer_fits c.args.h.program.now c.args.ty.now _ c.get-to.result.now c.in-Pointer.is c.get-to.ensures) c.alloc_block.ensures.why

pub returns-in-Chan-clause-next : goal.returns-in-Chan-clause-next
returns-in-Chan-clause-next c =
    goes c.new_chan.result next_of _ _
    (allocates-chan c.args.ty.now _ c.get-element.result.now _ (here_of c.args.h) c.in-Chan.is c.get-element.ensures) c.new_chan.ensures.next

pub returns-in-Chan-clause-why : goal.returns-in-Chan-clause-why
returns-in-Chan-clause-why c =
    explained c.new_chan.result _ _ (chan_fits c.args.h.program.now c.args.ty.now _ c.get-element.result.now _ c.in-Chan.is c.get-element.ensures) c.new_chan.ensures.why

pub returns-in_ok-lost-in-Void-clause-next : goal.returns-in_ok-lost-in-Void-clause-next
returns-in_ok-lost-in-Void-clause-next c = c.in_ok-lost-in-Void.ensures ∙ allocates-Void c.args.ty.now (here_of c.args.h) c.in-Void.is

pub returns-in_ok-lost-in-Integer-clause-next : goal.returns-in_ok-lost-in-Integer-clause-next
returns-in_ok-lost-in-Integer-clause-next c = c.in_ok-lost-in-Integer.ensures ∙ allocates-Integer c.args.ty.now _ (here_of c.args.h) c.in-Integer.is

pub returns-in_ok-lost-in-Array-clause-next : goal.returns-in_ok-lost-in-Array-clause-next
returns-in_ok-lost-in-Array-clause-next c = c.in_ok-lost-in-Array.ensures ∙ allocates-Array c.args.ty.now _ _ (here_of c.args.h) c.in-Array.is

pub returns-in_ok-lost-in-Tuple-clause-next : goal.returns-in_ok-lost-in-Tuple-clause-next
returns-in_ok-lost-in-Tuple-clause-next c = c.in_ok-lost-in-Tuple.ensures ∙ allocates-Tuple c.args.ty.now _ (here_of c.args.h) c.in-Tuple.is

pub returns-in_ok-lost-in-Aggregate-clause-next : goal.returns-in_ok-lost-in-Aggregate-clause-next
returns-in_ok-lost-in-Aggregate-clause-next c = c.in_ok-lost-in-Aggregate.ensures ∙ allocates-Aggregate c.args.ty.now _ (here_of c.args.h) c.in-Aggregate.is

pub returns-in_ok-lost-in-Function-clause-next : goal.returns-in_ok-lost-in-Function-clause-next
returns-in_ok-lost-in-Function-clause-next c = c.in_ok-lost-in-Function.ensures ∙ allocates-Function c.args.ty.now _ _ (here_of c.args.h) c.in-Function.is
