use Rattle.std.proofs.Common.{◌∙◌}
use Rattle.al_typed.specs.declared.expression.TExpr.TheVariants as expr
use Rattle.al_control.specs.Models.{here_of}
use Rattle.al_walk_values.proofs.Evaluations.{becomes, becomes_itself, becomes-Call, becomes-Print, evaluates, eval-Constant, eval-Text, eval-Nil, eval-Function, eval-Load, eval-Decay, eval-Address, eval-SizeofType, eval-SizeofPlace, eval-SizeofValue, eval-Unary, eval-Not, eval-Binary, eval-Difference, eval-Assign, eval-Update, eval-Step, eval-Zerox, eval-Tuple, eval-CallPointer, eval-Terminate, eval-Receive, eval-Send, eval-CanReceive, eval-CanSend, eval-MemberOf, eval-Cast, eval-Convert, eval-Sequence, eval-Iterator, why-Constant, why-Text, why-Function, why-SizeofType, why-SizeofPlace, why-SizeofValue, why-Move, why-Difference, why-Call}
use Rattle.al_walk_values.proofs.evals.eval.Goals as goal

pub returns-in-Constant-clause-next : goal.returns-in-Constant-clause-next
returns-in-Constant-clause-next c =
    evaluates c.eval_constant.result c.args.e.now (here_of c.args.h) _ c.eval_constant.ensures.next (becomes c.args.e.now _ (here_of c.args.h) _ c.in-Constant.is (eval-Constant c.in-Constant.ty c.in-Constant.bits (here_of c.args.h)))

pub returns-in-Text-clause-next : goal.returns-in-Text-clause-next
returns-in-Text-clause-next c =
    evaluates c.eval_text.result c.args.e.now (here_of c.args.h) _ c.eval_text.ensures.next (becomes c.args.e.now _ (here_of c.args.h) _ c.in-Text.is (eval-Text c.in-Text.ty c.in-Text.number (here_of c.args.h)))

pub returns-in_ok-gives_word-in-Nil-clause-next : goal.returns-in_ok-gives_word-in-Nil-clause-next
returns-in_ok-gives_word-in-Nil-clause-next c =
    c.in_ok-gives_word-in-Nil.ensures
    ∙ becomes c.args.e.now _ (here_of c.args.h) _ c.in-Nil.is (eval-Nil c.in-Nil.ty (here_of c.args.h))

pub returns-in-Function-clause-next : goal.returns-in-Function-clause-next
returns-in-Function-clause-next c =
    evaluates c.eval_function.result c.args.e.now (here_of c.args.h) _ c.eval_function.ensures.next (becomes c.args.e.now _ (here_of c.args.h) _ c.in-Function.is (eval-Function c.in-Function.ty c.in-Function.number (here_of c.args.h)))

pub returns-in_ok-with_place-in-Load-clause-next : goal.returns-in_ok-with_place-in-Load-clause-next
returns-in_ok-with_place-in-Load-clause-next c =
    c.in_ok-with_place-in-Load.ensures
    ∙ becomes c.args.e.now _ (here_of c.args.h) _ c.in-Load.is (eval-Load c.in-Load.ty c.in-Load.place (here_of c.args.h))

pub returns-in_ok-eval_address-in-Decay-clause-next : goal.returns-in_ok-eval_address-in-Decay-clause-next
returns-in_ok-eval_address-in-Decay-clause-next c =
    c.in_ok-eval_address-in-Decay.ensures
    ∙ becomes c.args.e.now _ (here_of c.args.h) _ c.in-Decay.is (eval-Decay c.in-Decay.ty c.in-Decay.place (here_of c.args.h))

pub returns-in_ok-eval_address-in-Address-clause-next : goal.returns-in_ok-eval_address-in-Address-clause-next
returns-in_ok-eval_address-in-Address-clause-next c =
    c.in_ok-eval_address-in-Address.ensures
    ∙ becomes c.args.e.now _ (here_of c.args.h) _ c.in-Address.is (eval-Address c.in-Address.ty c.in-Address.place (here_of c.args.h))

pub returns-in-SizeofType-clause-next : goal.returns-in-SizeofType-clause-next
returns-in-SizeofType-clause-next c =
    evaluates c.eval_size.result c.args.e.now (here_of c.args.h) _ c.eval_size.ensures.next (becomes c.args.e.now _ (here_of c.args.h) _ c.in-SizeofType.is (eval-SizeofType c.in-SizeofType.ty c.in-SizeofType.of (here_of c.args.h)))

pub returns-in-SizeofPlace-clause-next : goal.returns-in-SizeofPlace-clause-next
returns-in-SizeofPlace-clause-next c =
    evaluates c.eval_size_of_place.result c.args.e.now (here_of c.args.h) _ c.eval_size_of_place.ensures.next (becomes c.args.e.now _ (here_of c.args.h) _ c.in-SizeofPlace.is (eval-SizeofPlace c.in-SizeofPlace.ty c.in-SizeofPlace.place (here_of c.args.h)))

pub returns-in-SizeofValue-clause-next : goal.returns-in-SizeofValue-clause-next
returns-in-SizeofValue-clause-next c =
    evaluates c.eval_size_of_value.result c.args.e.now (here_of c.args.h) _ c.eval_size_of_value.ensures.next (becomes c.args.e.now _ (here_of c.args.h) _ c.in-SizeofValue.is (eval-SizeofValue c.in-SizeofValue.ty c.in-SizeofValue.value (here_of c.args.h)))

pub returns-in_ok-eval_unary-in-Unary-clause-next : goal.returns-in_ok-eval_unary-in-Unary-clause-next
returns-in_ok-eval_unary-in-Unary-clause-next c =
    c.in_ok-eval_unary-in-Unary.ensures
    ∙ becomes c.args.e.now _ (here_of c.args.h) _ c.in-Unary.is (eval-Unary c.in-Unary.ty c.in-Unary.op c.in-Unary.of (here_of c.args.h))

pub returns-in_ok-with_operand-in-Not-clause-next : goal.returns-in_ok-with_operand-in-Not-clause-next
returns-in_ok-with_operand-in-Not-clause-next c =
    c.in_ok-with_operand-in-Not.ensures
    ∙ becomes c.args.e.now _ (here_of c.args.h) _ c.in-Not.is (eval-Not c.in-Not.ty c.in-Not.of (here_of c.args.h))

pub returns-in_ok-with_operands-in-Binary-clause-next : goal.returns-in_ok-with_operands-in-Binary-clause-next
returns-in_ok-with_operands-in-Binary-clause-next c =
    c.in_ok-with_operands-in-Binary.ensures
    ∙ becomes c.args.e.now _ (here_of c.args.h) _ c.in-Binary.is (eval-Binary c.in-Binary.ty c.in-Binary.op c.in-Binary.kind c.in-Binary.left c.in-Binary.right (here_of c.args.h))

pub returns-in-Difference-clause-next : goal.returns-in-Difference-clause-next
returns-in-Difference-clause-next c =
    evaluates c.eval_difference.result c.args.e.now (here_of c.args.h) _ c.eval_difference.ensures.next (becomes c.args.e.now _ (here_of c.args.h) _ c.in-Difference.is (eval-Difference c.in-Difference.ty c.in-Difference.left c.in-Difference.right (here_of c.args.h)))

pub returns-in_ok-eval_assign-in-Assign-clause-next : goal.returns-in_ok-eval_assign-in-Assign-clause-next
returns-in_ok-eval_assign-in-Assign-clause-next c =
    c.in_ok-eval_assign-in-Assign.ensures
    ∙ becomes c.args.e.now _ (here_of c.args.h) _ c.in-Assign.is (eval-Assign c.in-Assign.ty c.in-Assign.target c.in-Assign.value (here_of c.args.h))

pub returns-in_ok-eval_update-in-Update-clause-next : goal.returns-in_ok-eval_update-in-Update-clause-next
returns-in_ok-eval_update-in-Update-clause-next c =
    c.in_ok-eval_update-in-Update.ensures
    ∙ becomes c.args.e.now _ (here_of c.args.h) _ c.in-Update.is (eval-Update c.in-Update.ty c.in-Update.place c.in-Update.change c.in-Update.value (here_of c.args.h))

pub returns-in_ok-with_value_of-in-Step-clause-next : goal.returns-in_ok-with_value_of-in-Step-clause-next
returns-in_ok-with_value_of-in-Step-clause-next c =
    c.in_ok-with_value_of-in-Step.ensures
    ∙ becomes c.args.e.now _ (here_of c.args.h) _ c.in-Step.is (eval-Step c.in-Step.ty c.in-Step.op c.in-Step.place (here_of c.args.h))

pub returns-in_ok-with_value_of-in-Zerox-clause-next : goal.returns-in_ok-with_value_of-in-Zerox-clause-next
returns-in_ok-with_value_of-in-Zerox-clause-next c =
    c.in_ok-with_value_of-in-Zerox.ensures
    ∙ becomes c.args.e.now _ (here_of c.args.h) _ c.in-Zerox.is (eval-Zerox c.in-Zerox.ty c.in-Zerox.place (here_of c.args.h))

pub returns-in_ok-eval_tuple-in-Tuple-clause-next : goal.returns-in_ok-eval_tuple-in-Tuple-clause-next
returns-in_ok-eval_tuple-in-Tuple-clause-next c =
    c.in_ok-eval_tuple-in-Tuple.ensures
    ∙ becomes c.args.e.now _ (here_of c.args.h) _ c.in-Tuple.is (eval-Tuple c.in-Tuple.ty c.in-Tuple.parts (here_of c.args.h))

pub returns-in_ok-eval_call_pointer-in-CallPointer-clause-next : goal.returns-in_ok-eval_call_pointer-in-CallPointer-clause-next
returns-in_ok-eval_call_pointer-in-CallPointer-clause-next c =
    c.in_ok-eval_call_pointer-in-CallPointer.ensures
    ∙ becomes c.args.e.now _ (here_of c.args.h) _ c.in-CallPointer.is (eval-CallPointer c.in-CallPointer.ty c.in-CallPointer.pointer c.in-CallPointer.arguments (here_of c.args.h))

pub returns-in_ok-eval_print-in-Print-clause-next : goal.returns-in_ok-eval_print-in-Print-clause-next
returns-in_ok-eval_print-in-Print-clause-next c =
    c.in_ok-eval_print-in-Print.ensures
    ∙ becomes-Print c.args.e.now c.in-Print.ty c.in-Print.format c.in-Print.arguments (here_of c.args.h) c.in-Print.is

pub returns-in_ok-with_action-in-Terminate-clause-next : goal.returns-in_ok-with_action-in-Terminate-clause-next
returns-in_ok-with_action-in-Terminate-clause-next c =
    c.in_ok-with_action-in-Terminate.ensures
    ∙ becomes c.args.e.now _ (here_of c.args.h) _ c.in-Terminate.is (eval-Terminate c.in-Terminate.ty c.in-Terminate.status (here_of c.args.h))

pub returns-in_ok-with_action-in-Receive-clause-next : goal.returns-in_ok-with_action-in-Receive-clause-next
returns-in_ok-with_action-in-Receive-clause-next c =
    c.in_ok-with_action-in-Receive.ensures
    ∙ becomes c.args.e.now _ (here_of c.args.h) _ c.in-Receive.is (eval-Receive c.in-Receive.ty c.in-Receive.chan (here_of c.args.h))

pub returns-in_ok-eval_send-in-Send-clause-next : goal.returns-in_ok-eval_send-in-Send-clause-next
returns-in_ok-eval_send-in-Send-clause-next c =
    c.in_ok-eval_send-in-Send.ensures
    ∙ becomes c.args.e.now _ (here_of c.args.h) _ c.in-Send.is (eval-Send c.in-Send.ty c.in-Send.chan c.in-Send.value (here_of c.args.h))

pub returns-in_ok-with_action-in-CanReceive-clause-next : goal.returns-in_ok-with_action-in-CanReceive-clause-next
returns-in_ok-with_action-in-CanReceive-clause-next c =
    c.in_ok-with_action-in-CanReceive.ensures
    ∙ becomes c.args.e.now _ (here_of c.args.h) _ c.in-CanReceive.is (eval-CanReceive c.in-CanReceive.ty c.in-CanReceive.chan (here_of c.args.h))

pub returns-in_ok-with_action-in-CanSend-clause-next : goal.returns-in_ok-with_action-in-CanSend-clause-next
returns-in_ok-with_action-in-CanSend-clause-next c =
    c.in_ok-with_action-in-CanSend.ensures
    ∙ becomes c.args.e.now _ (here_of c.args.h) _ c.in-CanSend.is (eval-CanSend c.in-CanSend.ty c.in-CanSend.chan (here_of c.args.h))

pub returns-in_ok-eval_member-in-MemberOf-clause-next : goal.returns-in_ok-eval_member-in-MemberOf-clause-next
returns-in_ok-eval_member-in-MemberOf-clause-next c =
    c.in_ok-eval_member-in-MemberOf.ensures
    ∙ becomes c.args.e.now _ (here_of c.args.h) _ c.in-MemberOf.is (eval-MemberOf c.in-MemberOf.ty c.in-MemberOf.value c.in-MemberOf.path (here_of c.args.h))

pub returns-in_ok-eval_conversion-in-Cast-clause-next : goal.returns-in_ok-eval_conversion-in-Cast-clause-next
returns-in_ok-eval_conversion-in-Cast-clause-next c =
    c.in_ok-eval_conversion-in-Cast.ensures
    ∙ becomes c.args.e.now _ (here_of c.args.h) _ c.in-Cast.is (eval-Cast c.in-Cast.ty c.in-Cast.of (here_of c.args.h))

pub returns-in_ok-eval_conversion-in-Convert-clause-next : goal.returns-in_ok-eval_conversion-in-Convert-clause-next
returns-in_ok-eval_conversion-in-Convert-clause-next c =
    c.in_ok-eval_conversion-in-Convert.ensures
    ∙ becomes c.args.e.now _ (here_of c.args.h) _ c.in-Convert.is (eval-Convert c.in-Convert.ty c.in-Convert.of (here_of c.args.h))

pub returns-in_ok-eval_sequence-in-Sequence-clause-next : goal.returns-in_ok-eval_sequence-in-Sequence-clause-next
returns-in_ok-eval_sequence-in-Sequence-clause-next c =
    c.in_ok-eval_sequence-in-Sequence.ensures
    ∙ becomes c.args.e.now _ (here_of c.args.h) _ c.in-Sequence.is (eval-Sequence c.in-Sequence.ty c.in-Sequence.first c.in-Sequence.last (here_of c.args.h))

pub returns-in_ok-eval_iterator-in-Iterator-clause-next : goal.returns-in_ok-eval_iterator-in-Iterator-clause-next
returns-in_ok-eval_iterator-in-Iterator-clause-next c =
    c.in_ok-eval_iterator-in-Iterator.ensures
    ∙ becomes c.args.e.now _ (here_of c.args.h) _ c.in-Iterator.is (eval-Iterator c.in-Iterator.ty c.in-Iterator.number (here_of c.args.h))

pub returns-in-Call-clause-next : goal.returns-in-Call-clause-next
returns-in-Call-clause-next c =
    evaluates c.eval_call.result c.args.e.now (here_of c.args.h) _ c.eval_call.ensures.next
    (becomes-Call c.args.e.now c.in-Call.ty c.in-Call.function c.in-Call.receiver c.in-Call.arguments (here_of c.args.h) c.in-Call.is)

pub returns-in_ok-eval_logical-in-Logical-clause-next : goal.returns-in_ok-eval_logical-in-Logical-clause-next
returns-in_ok-eval_logical-in-Logical-clause-next c =
    c.in_ok-eval_logical-in-Logical.ensures
    ∙ becomes_itself c.args.e.now (expr.Logical c.in-Logical.ty c.in-Logical.op c.in-Logical.left c.in-Logical.right) (here_of c.args.h) c.in-Logical.is

pub returns-in-Move-clause-next : goal.returns-in-Move-clause-next
returns-in-Move-clause-next c =
    evaluates c.eval_movement.result c.args.e.now (here_of c.args.h) _ c.eval_movement.ensures.next
    (becomes_itself c.args.e.now (expr.Move c.in-Move.ty c.in-Move.movement c.in-Move.pointer c.in-Move.count) (here_of c.args.h) c.in-Move.is)

pub returns-in-Constant-clause-why : goal.returns-in-Constant-clause-why
returns-in-Constant-clause-why c =
    why-Constant c.eval_constant.result c.args.h.program.now c.args.e.now c.in-Constant.ty c.in-Constant.bits c.in-Constant.is c.eval_constant.ensures.why

pub returns-in-Text-clause-why : goal.returns-in-Text-clause-why
returns-in-Text-clause-why c =
    why-Text c.eval_text.result c.args.h.program.now c.args.e.now c.in-Text.ty c.in-Text.number c.in-Text.is c.eval_text.ensures.why

pub returns-in-Function-clause-why : goal.returns-in-Function-clause-why
returns-in-Function-clause-why c =
    why-Function c.eval_function.result c.args.h.program.now c.args.e.now c.in-Function.ty c.in-Function.number c.in-Function.is c.eval_function.ensures.why

pub returns-in-SizeofType-clause-why : goal.returns-in-SizeofType-clause-why
returns-in-SizeofType-clause-why c =
    why-SizeofType c.eval_size.result c.args.h.program.now c.args.e.now c.in-SizeofType.ty c.in-SizeofType.of c.in-SizeofType.is c.eval_size.ensures.why

pub returns-in-SizeofPlace-clause-why : goal.returns-in-SizeofPlace-clause-why
returns-in-SizeofPlace-clause-why c =
    why-SizeofPlace c.eval_size_of_place.result c.args.h.program.now c.args.e.now c.in-SizeofPlace.ty c.in-SizeofPlace.place c.in-SizeofPlace.is c.eval_size_of_place.ensures.why

pub returns-in-SizeofValue-clause-why : goal.returns-in-SizeofValue-clause-why
returns-in-SizeofValue-clause-why c =
    why-SizeofValue c.eval_size_of_value.result c.args.h.program.now c.args.e.now c.in-SizeofValue.ty c.in-SizeofValue.value c.in-SizeofValue.is c.eval_size_of_value.ensures.why

pub returns-in-Move-clause-why : goal.returns-in-Move-clause-why
returns-in-Move-clause-why c =
    why-Move c.eval_movement.result c.args.h.program.now c.args.e.now c.in-Move.ty c.in-Move.movement c.in-Move.pointer c.in-Move.count c.in-Move.is c.eval_movement.ensures.why

pub returns-in-Difference-clause-why : goal.returns-in-Difference-clause-why
returns-in-Difference-clause-why c =
    why-Difference c.eval_difference.result c.args.h.program.now c.args.e.now c.in-Difference.ty c.in-Difference.left c.in-Difference.right c.in-Difference.is c.eval_difference.ensures.why

pub returns-in-Call-clause-why : goal.returns-in-Call-clause-why
returns-in-Call-clause-why c =
    why-Call c.eval_call.result c.args.h.program.now c.args.e.now c.in-Call.ty c.in-Call.function c.in-Call.receiver c.in-Call.arguments c.in-Call.is c.eval_call.ensures.why
