use Rattle.std.proofs.Common.{◌≡◌, ℕ, false, List, ◌++◌, map, Some, OnOk, refl, sym, ap, ◌∙◌, subst, IfOk, arith, ap₂}
use Rattle.std.proofs.lemmas.List.{append-nil}
use Rattle.al_typed.specs.declared.ty.Ty.{Ty}
use Rattle.al_typed.specs.declared.expression.TExpr.{TExpr}
use Rattle.al_typed.specs.declared.expression.TPlace.{TPlace}
use Rattle.al_typed.specs.declared.expression.TTarget.{TTarget}
use Rattle.al_typed.specs.Typed.{type_of, place_type}
use Rattle.al_meaning.specs.Shown.{kind_of}
use Rattle.al_meaning.specs.Words.{integer_words}
use Rattle.al_meaning.specs.Here.{pointee}
use Rattle.al_meaning.specs.Places.{path_offset}
use Rattle.al_ir.specs.declared.ir.Operation.{Operation}
use Rattle.al_lower_code.specs.Homes.{words, size}
use Rattle.al_lower_code.specs.Moving.{constants}
use Rattle.al_lower_code.specs.Coded.{Coded, Placed, Aimed, Given, operand_code}
use Rattle.al_lower_code.specs.Values.{pointed_placed, member_placed, element_placed, load_coded, address_coded, negation_coded, binary_coded, logical_coded, movement_coded, difference_coded, tuple_coded, member_coded, sequence_coded}
use Rattle.al_lower_code.specs.Classes.{class_number}
use Rattle.al_lower_code.specs.Actions.{assign_coded, update_coded, stepped_coded, zerox_coded, call_pointer_coded, terminate_coded, receive_coded, send_coded, can_receive_coded, can_send_coded, single_aimed, pieces_code}
use Rattle.al_lower_code.specs.Expressions.{coded, placed, aimed, received_object}
use Rattle.al_lower_base.specs.Spots.{spot_of, where_of}
use Rattle.al_lower_operands.specs.Rows.{row_of, aimed_of, object_of}
use Rattle.al_lower_operands.proofs.ByForm.{by_form, by_constant, by_unary, by_conversion, not_folded}
use Rattle.al_lower_operands.proofs.Folding.{folded-SizeofPlace, folded-SizeofValue, open-Not, open-Binary, open-Logical}
use Rattle.al_lower_operands.proofs.Forms.{coded-Load, coded-Decay, coded-Address, coded-Move, coded-Difference, coded-Assign, coded-Update, coded-Step, coded-Zerox, coded-Terminate, coded-Receive, coded-Send, coded-CanReceive, coded-CanSend, coded-MemberOf, coded-Iterator, coded-Tuple, coded-CallPointer, coded-Print, coded-Sequence, coded-Call, placed-Global, placed-Pointed, placed-Element, placed-Member, placed-PointedMember, aimed-Into, aimed-Parts, received_object-Place, received_object-Value, received_object-Pointer}
use Rattle.al_lower_expr.proofs.Computing.{binary_values, binary_compares, logical_values, logical_decides, converted_changes, known_by, forward_by, counted_by, back_by}
use Rattle.al_lower_expr.proofs.General.{drops_rest, decides_rest, points_rest, decides_pair, constant_points, some_none}
use Rattle.al_lower_expr.proofs.Made.{by_part, by_parts, place_by_part, place_by_parts, place_by_form}
use Rattle.al_lower_forms.specs.Calls.{called_pointer}
use Rattle.al_lower_forms.specs.Steps.{kept}
use Rattle.al_lower_forms.specs.Updates.{change_by}
use Rattle.al_lower_forms.proofs.ByConstants.{all_made, none_made, left_to_make}
use Rattle.al_lower_forms.proofs.SameParts.{is_form, open_folded, open_same, changed}
use Rattle.al_lower_forms.proofs.Stepping.{is_stepped, not_stepped}
use Rattle.al_lower_expr.specs.Members.{object_placed, object_valued, object_pointed}
use Rattle.al_lower_expr.specs.Stored.{value_slot}
use Rattle.al_lower_expr.proofs.InTurn.{then_ok, then_both, then_all, as_ok}
use Rattle.al_lower_expr.proofs.Targets.{aims_more, aims_done, row_has_no_single, parts_assigned, parts_slot}
use Rattle.al_lower_expr.proofs.Wanted.{assignment, update_by, placed_update_by, step_is, call_is, arguments_by, pointed_call_by, found_object}
use Rattle.al_lower_expr.proofs.+expr.Goals as goal

pub expr::value-returns-in-Folded : goal.expr::value-returns-in-Folded
expr::value-returns-in-Folded t c =
    by_constant (λ (x : Coded). OnOk c.constant.result (c.constant.new.code ≡ c.args.code.now ++ x.value c.args.dest c.args.to)) (spot_of c.args.s) c.args.e.now (Some c.in-Folded.bits) _ (sym (is_form (spot_of c.args.s) c.args.e.now _ _ c.in_ok-bits.ensures.made c.in-Folded.is)) refl (subst (λ (t : Ty). OnOk c.constant.result (c.constant.new.code ≡ c.args.code.now ++ constants c.args.s.line c.args.dest (integer_words (kind_of t) c.in-Folded.bits))) c.ty.ensures c.constant.ensures)

pub expr::value-returns-in-Part : goal.expr::value-returns-in-Part
expr::value-returns-in-Part t c =
    subst (λ (x : Coded). OnOk c.value.result (c.value.new.code ≡ c.args.code.now ++ x.value c.args.dest c.args.to)) (sym (is_form (spot_of c.args.s) c.args.e.now _ _ c.in_ok-bits.ensures.made c.in-Part.is)) c.value.ensures

pub expr::effect-returns-in-Folded : goal.expr::effect-returns-in-Folded
expr::effect-returns-in-Folded t c =
    by_constant (λ (x : Coded). c.args.code.now ≡ c.args.code.now ++ x.effect c.args.to) (spot_of c.args.s) c.args.e.now _ _ (sym (is_form (spot_of c.args.s) c.args.e.now _ _ c.in_ok-form_of.ensures.made c.in-Folded.is)) refl (sym (append-nil c.args.code.now))

pub expr::effect-returns-in-Part : goal.expr::effect-returns-in-Part
expr::effect-returns-in-Part t c =
    subst (λ (x : Coded). OnOk c.effect.result (c.effect.new.code ≡ c.args.code.now ++ x.effect c.args.to)) (sym (is_form (spot_of c.args.s) c.args.e.now _ _ c.in_ok-form_of.ensures.made c.in-Part.is)) c.effect.ensures

pub expr::unless-returns-in-Folded : goal.expr::unless-returns-in-Folded
expr::unless-returns-in-Folded t c =
    by_constant (λ (x : Coded). OnOk c.skips_known.result (c.skips_known.new.code ≡ c.args.code.now ++ x.unless c.args.to c.args.count)) (spot_of c.args.s) c.args.e.now (Some c.in-Folded.bits) _ (sym (is_form (spot_of c.args.s) c.args.e.now _ _ c.in_ok-bits.ensures.made c.in-Folded.is)) refl c.skips_known.ensures

pub expr::unless-returns-in-Part : goal.expr::unless-returns-in-Part
expr::unless-returns-in-Part t c =
    subst (λ (x : Coded). OnOk c.unless.result (c.unless.new.code ≡ c.args.code.now ++ x.unless c.args.to c.args.count)) (sym (is_form (spot_of c.args.s) c.args.e.now _ _ c.in_ok-bits.ensures.made c.in-Part.is)) c.unless.ensures

pub expr::pointer-returns-in-Folded : goal.expr::pointer-returns-in-Folded
expr::pointer-returns-in-Folded t c =
    subst (λ (ops : List Operation). OnOk c.value.result (c.value.new.code ≡ c.args.code.now ++ ops)) (sym (constant_points (spot_of c.args.s) c.args.e.now _ c.args.lasting c.args.to (is_form (spot_of c.args.s) c.args.e.now _ _ c.in_ok-form_of.ensures.made c.in-Folded.is))) c.value.ensures

pub expr::pointer-returns-in-Part : goal.expr::pointer-returns-in-Part
expr::pointer-returns-in-Part t c =
    subst (λ (x : Coded). OnOk c.pointer.result (c.pointer.new.code ≡ c.args.code.now ++ x.pointer c.args.lasting c.args.to)) (sym (is_form (spot_of c.args.s) c.args.e.now _ _ c.in_ok-form_of.ensures.made c.in-Part.is)) c.pointer.ensures

pub expr::value-returns-in-Load : goal.expr::value-returns-in-Load
expr::value-returns-in-Load t c =
    by_part (λ (x : Coded). OnOk c.found.result (c.found.new.code ≡ c.args.code.now ++ x.value c.args.dest c.args.to)) (spot_of c.args.s) c.args.e.now _ (λ (x : TPlace). load_coded (spot_of c.args.s) c.in-Load.ty (placed (spot_of c.args.s) x)) _ _ c.in-Load.is (coded-Load (spot_of c.args.s) c.in-Load.ty c.in-Load.place) c.get.ensures c.found.ensures

pub expr::value-returns-in-Decay : goal.expr::value-returns-in-Decay
expr::value-returns-in-Decay t c =
    by_part (λ (x : Coded). OnOk c.found-in-Decay.result (c.found-in-Decay.new.code ≡ c.args.code.now ++ x.value c.args.dest c.args.to)) (spot_of c.args.s) c.args.e.now _ (λ (x : TPlace). address_coded (spot_of c.args.s) c.in-Decay.ty (placed (spot_of c.args.s) x)) _ _ c.in-Decay.is (coded-Decay (spot_of c.args.s) c.in-Decay.ty c.in-Decay.place) c.get-in-Decay.ensures c.found-in-Decay.ensures

pub expr::value-returns-in-Address : goal.expr::value-returns-in-Address
expr::value-returns-in-Address t c =
    by_part (λ (x : Coded). OnOk c.found-in-Address.result (c.found-in-Address.new.code ≡ c.args.code.now ++ x.value c.args.dest c.args.to)) (spot_of c.args.s) c.args.e.now _ (λ (x : TPlace). address_coded (spot_of c.args.s) c.in-Address.ty (placed (spot_of c.args.s) x)) _ _ c.in-Address.is (coded-Address (spot_of c.args.s) c.in-Address.ty c.in-Address.place) c.get-in-Address.ensures c.found-in-Address.ensures

pub expr::value-returns-in-Unary : goal.expr::value-returns-in-Unary
expr::value-returns-in-Unary t c =
    by_unary (λ (x : Coded). OnOk c.unary_value.result (c.unary_value.new.code ≡ c.args.code.now ++ x.value c.args.dest c.args.to)) (spot_of c.args.s) c.args.e.now _ _ _ _ _ (sym (open_folded (spot_of c.args.s) c.args.e.now _ c.in_ok-bits.ensures.made c.in-Open.is)) refl c.in-Unary.is c.get-in-Unary.ensures c.unary_value.ensures

pub expr::value-returns-in-Not : goal.expr::value-returns-in-Not
expr::value-returns-in-Not t c =
    by_part (λ (x : Coded). OnOk c.used.result (c.used.new.code ≡ c.args.code.now ++ x.value c.args.dest c.args.to)) (spot_of c.args.s) c.args.e.now _ (λ (x : TExpr). negation_coded (spot_of c.args.s) c.in-Not.ty (words (spot_of c.args.s) (type_of x)) (coded (spot_of c.args.s) x)) _ _ c.in-Not.is (open-Not (spot_of c.args.s) c.in-Not.ty c.in-Not.of (not_folded (spot_of c.args.s) c.args.e.now _ _ (sym (open_folded (spot_of c.args.s) c.args.e.now _ c.in_ok-bits.ensures.made c.in-Open.is)) refl c.in-Not.is)) c.get-in-Not.ensures c.used.ensures

pub expr::value-returns-in-Binary : goal.expr::value-returns-in-Binary
expr::value-returns-in-Binary t c =
    by_parts (λ (x : Coded). OnOk c.binary_value.result (c.binary_value.new.code ≡ c.args.code.now ++ x.value c.args.dest c.args.to)) (spot_of c.args.s) c.args.e.now _ (λ (x : TExpr) (y : TExpr). binary_coded (spot_of c.args.s) c.in-Binary.ty c.in-Binary.op c.in-Binary.kind (words (spot_of c.args.s) (type_of x)) (coded (spot_of c.args.s) x) (coded (spot_of c.args.s) y)) _ _ _ _ c.in-Binary.is (open-Binary (spot_of c.args.s) c.in-Binary.ty c.in-Binary.op c.in-Binary.kind c.in-Binary.left c.in-Binary.right (not_folded (spot_of c.args.s) c.args.e.now _ _ (sym (open_folded (spot_of c.args.s) c.args.e.now _ c.in_ok-bits.ensures.made c.in-Open.is)) refl c.in-Binary.is)) c.get-in-Binary.ensures c.get-in-Binary-2.ensures (subst (λ (ops : List Operation). OnOk c.binary_value.result (c.binary_value.new.code ≡ c.args.code.now ++ ops)) (sym (binary_values (spot_of c.args.s) c.in-Binary.ty c.in-Binary.op c.in-Binary.kind (words (spot_of c.args.s) (type_of c.get-in-Binary.result.now)) (coded (spot_of c.args.s) c.get-in-Binary.result.now) (coded (spot_of c.args.s) c.get-in-Binary-2.result.now) c.args.dest c.args.to)) c.binary_value.ensures)

pub expr::value-returns-in-Logical : goal.expr::value-returns-in-Logical
expr::value-returns-in-Logical t c =
    by_parts (λ (x : Coded). OnOk c.logical_value.result (c.logical_value.new.code ≡ c.args.code.now ++ x.value c.args.dest c.args.to)) (spot_of c.args.s) c.args.e.now _ (λ (x : TExpr) (y : TExpr). logical_coded (spot_of c.args.s) c.in-Logical.ty c.in-Logical.op (words (spot_of c.args.s) (type_of y)) (coded (spot_of c.args.s) x) (coded (spot_of c.args.s) y)) _ _ _ _ c.in-Logical.is (open-Logical (spot_of c.args.s) c.in-Logical.ty c.in-Logical.op c.in-Logical.left c.in-Logical.right (not_folded (spot_of c.args.s) c.args.e.now _ _ (sym (open_folded (spot_of c.args.s) c.args.e.now _ c.in_ok-bits.ensures.made c.in-Open.is)) refl c.in-Logical.is)) c.get-in-Logical.ensures c.get-in-Logical-2.ensures (subst (λ (ops : List Operation). OnOk c.logical_value.result (c.logical_value.new.code ≡ c.args.code.now ++ ops)) (sym (logical_values (spot_of c.args.s) c.in-Logical.ty c.in-Logical.op (words (spot_of c.args.s) (type_of c.get-in-Logical-2.result.now)) (coded (spot_of c.args.s) c.get-in-Logical.result.now) (coded (spot_of c.args.s) c.get-in-Logical-2.result.now) c.args.dest c.args.to)) c.logical_value.ensures)

pub expr::value-returns-in-Move : goal.expr::value-returns-in-Move
expr::value-returns-in-Move t c =
    by_parts (λ (x : Coded). OnOk c.move_value.result (c.move_value.new.code ≡ c.args.code.now ++ x.value c.args.dest c.args.to)) (spot_of c.args.s) c.args.e.now _ (λ (x : TExpr) (y : TExpr). movement_coded (spot_of c.args.s) c.in-Move.ty c.in-Move.movement (coded (spot_of c.args.s) x) (coded (spot_of c.args.s) y)) _ _ _ _ c.in-Move.is (coded-Move (spot_of c.args.s) c.in-Move.ty c.in-Move.movement c.in-Move.pointer c.in-Move.count) c.get-in-Move.ensures c.get-in-Move-2.ensures c.move_value.ensures

pub expr::value-returns-in-Difference : goal.expr::value-returns-in-Difference
expr::value-returns-in-Difference t c =
    by_parts (λ (x : Coded). OnOk c.joined.result (c.joined.new.code ≡ c.args.code.now ++ x.value c.args.dest c.args.to)) (spot_of c.args.s) c.args.e.now _ (λ (x : TExpr) (y : TExpr). difference_coded (spot_of c.args.s) c.in-Difference.ty (size (spot_of c.args.s) (pointee (type_of x))) (coded (spot_of c.args.s) x) (coded (spot_of c.args.s) y)) _ _ _ _ c.in-Difference.is (coded-Difference (spot_of c.args.s) c.in-Difference.ty c.in-Difference.left c.in-Difference.right) c.get-in-Difference.ensures c.get-in-Difference-2.ensures c.joined.ensures

pub expr::value-returns-in-Assign : goal.expr::value-returns-in-Assign
expr::value-returns-in-Assign t c =
    by_parts (λ (x : Coded). OnOk c.assigns.result (c.assigns.new.code ≡ c.args.code.now ++ x.value c.args.dest c.args.to)) (spot_of c.args.s) c.args.e.now _ (λ (x : TTarget) (y : TExpr). assign_coded (spot_of c.args.s) c.in-Assign.ty (aimed (spot_of c.args.s) x) (coded (spot_of c.args.s) y)) _ _ _ _ c.in-Assign.is (coded-Assign (spot_of c.args.s) c.in-Assign.ty c.in-Assign.target c.in-Assign.value) c.get-in-Assign.ensures c.get-in-Assign-2.ensures c.assigns.ensures

pub expr::value-returns-in-Update : goal.expr::value-returns-in-Update
expr::value-returns-in-Update t c =
    by_parts (λ (x : Coded). OnOk c.update.result (c.update.new.code ≡ c.args.code.now ++ x.value c.args.dest c.args.to)) (spot_of c.args.s) c.args.e.now _ (λ (x : TPlace) (y : TExpr). update_coded (spot_of c.args.s) c.in-Update.ty (placed (spot_of c.args.s) x) c.in-Update.change (coded (spot_of c.args.s) y)) _ _ _ _ c.in-Update.is (coded-Update (spot_of c.args.s) c.in-Update.ty c.in-Update.place c.in-Update.change c.in-Update.value) c.get-in-Update.ensures c.get-in-Update-2.ensures c.update.ensures

pub expr::value-returns-in-Step : goal.expr::value-returns-in-Step
expr::value-returns-in-Step t c =
    by_part (λ (x : Coded). OnOk c.stepped.result (c.stepped.new.code ≡ c.args.code.now ++ x.value c.args.dest c.args.to)) (spot_of c.args.s) c.args.e.now _ (λ (x : TPlace). stepped_coded (spot_of c.args.s) c.in-Step.ty c.in-Step.op (placed (spot_of c.args.s) x)) _ _ c.in-Step.is (coded-Step (spot_of c.args.s) c.in-Step.ty c.in-Step.op c.in-Step.place) c.get-in-Step.ensures c.stepped.ensures

pub expr::value-returns-in-Zerox : goal.expr::value-returns-in-Zerox
expr::value-returns-in-Zerox t c =
    by_part (λ (x : Coded). OnOk c.stepped-in-Zerox.result (c.stepped-in-Zerox.new.code ≡ c.args.code.now ++ x.value c.args.dest c.args.to)) (spot_of c.args.s) c.args.e.now _ (λ (x : TPlace). zerox_coded (spot_of c.args.s) c.in-Zerox.ty (placed (spot_of c.args.s) x)) _ _ c.in-Zerox.is (coded-Zerox (spot_of c.args.s) c.in-Zerox.ty c.in-Zerox.place) c.get-in-Zerox.ensures c.stepped-in-Zerox.ensures

pub expr::value-returns-in-Tuple : goal.expr::value-returns-in-Tuple
expr::value-returns-in-Tuple t c =
    by_part (λ (x : Coded). OnOk c.tuple_value.result (c.tuple_value.new.code ≡ c.args.code.now ++ x.value c.args.dest c.args.to)) (spot_of c.args.s) c.args.e.now _ (λ (x : List TExpr). tuple_coded (spot_of c.args.s) c.in-Tuple.ty (row_of (spot_of c.args.s) x)) _ _ c.in-Tuple.is (coded-Tuple (spot_of c.args.s) c.in-Tuple.ty c.in-Tuple.parts) c.as_slice.ensures.value c.tuple_value.ensures

pub expr::value-returns-in-Call : goal.expr::value-returns-in-Call
expr::value-returns-in-Call t c =
    by_form (λ (x : Coded). OnOk c.call.result (c.call.new.code ≡ c.args.code.now ++ x.value c.args.dest c.args.to)) (spot_of c.args.s) c.args.e.now _ _ c.in-Call.is (coded-Call (spot_of c.args.s) c.in-Call.ty c.in-Call.function c.in-Call.receiver c.in-Call.arguments) c.call.ensures

pub expr::value-returns-in-CallPointer : goal.expr::value-returns-in-CallPointer
expr::value-returns-in-CallPointer t c =
    by_part (λ (x : Coded). OnOk c.call_pointer.result (c.call_pointer.new.code ≡ c.args.code.now ++ x.value c.args.dest c.args.to)) (spot_of c.args.s) c.args.e.now _ (λ (x : TExpr). call_pointer_coded (spot_of c.args.s) c.in-CallPointer.ty (class_number c.args.s.program.now (pointee (type_of x))) (coded (spot_of c.args.s) x) (row_of (spot_of c.args.s) c.in-CallPointer.arguments)) _ _ c.in-CallPointer.is (coded-CallPointer (spot_of c.args.s) c.in-CallPointer.ty c.in-CallPointer.pointer c.in-CallPointer.arguments) c.get-in-CallPointer.ensures c.call_pointer.ensures

pub expr::value-returns-in-Print : goal.expr::value-returns-in-Print
expr::value-returns-in-Print t c =
    by_form (λ (x : Coded). OnOk c.print_value.result (c.print_value.new.code ≡ c.args.code.now ++ x.value c.args.dest c.args.to)) (spot_of c.args.s) c.args.e.now _ _ c.in-Print.is (coded-Print (spot_of c.args.s) c.in-Print.ty c.in-Print.format c.in-Print.arguments) c.print_value.ensures

pub expr::value-returns-in-Terminate : goal.expr::value-returns-in-Terminate
expr::value-returns-in-Terminate t c =
    by_part (λ (x : Coded). OnOk c.used-in-Terminate.result (c.used-in-Terminate.new.code ≡ c.args.code.now ++ x.value c.args.dest c.args.to)) (spot_of c.args.s) c.args.e.now _ (λ (x : TExpr). terminate_coded (spot_of c.args.s) c.in-Terminate.ty (coded (spot_of c.args.s) x)) _ _ c.in-Terminate.is (coded-Terminate (spot_of c.args.s) c.in-Terminate.ty c.in-Terminate.status) c.get-in-Terminate.ensures c.used-in-Terminate.ensures

pub expr::value-returns-in-Receive : goal.expr::value-returns-in-Receive
expr::value-returns-in-Receive t c =
    by_part (λ (x : Coded). OnOk c.used-in-Receive.result (c.used-in-Receive.new.code ≡ c.args.code.now ++ x.value c.args.dest c.args.to)) (spot_of c.args.s) c.args.e.now _ (λ (x : TExpr). receive_coded (spot_of c.args.s) c.in-Receive.ty (coded (spot_of c.args.s) x)) _ _ c.in-Receive.is (coded-Receive (spot_of c.args.s) c.in-Receive.ty c.in-Receive.chan) c.get-in-Receive.ensures c.used-in-Receive.ensures

pub expr::value-returns-in-Send : goal.expr::value-returns-in-Send
expr::value-returns-in-Send t c =
    by_parts (λ (x : Coded). OnOk c.joined-in-Send.result (c.joined-in-Send.new.code ≡ c.args.code.now ++ x.value c.args.dest c.args.to)) (spot_of c.args.s) c.args.e.now _ (λ (x : TExpr) (y : TExpr). send_coded (spot_of c.args.s) c.in-Send.ty (type_of y) (coded (spot_of c.args.s) x) (coded (spot_of c.args.s) y)) _ _ _ _ c.in-Send.is (coded-Send (spot_of c.args.s) c.in-Send.ty c.in-Send.chan c.in-Send.value) c.get-in-Send.ensures c.get-in-Send-2.ensures c.joined-in-Send.ensures

pub expr::value-returns-in-CanReceive : goal.expr::value-returns-in-CanReceive
expr::value-returns-in-CanReceive t c =
    by_part (λ (x : Coded). OnOk c.used-in-CanReceive.result (c.used-in-CanReceive.new.code ≡ c.args.code.now ++ x.value c.args.dest c.args.to)) (spot_of c.args.s) c.args.e.now _ (λ (x : TExpr). can_receive_coded (spot_of c.args.s) c.in-CanReceive.ty (coded (spot_of c.args.s) x)) _ _ c.in-CanReceive.is (coded-CanReceive (spot_of c.args.s) c.in-CanReceive.ty c.in-CanReceive.chan) c.get-in-CanReceive.ensures c.used-in-CanReceive.ensures

pub expr::value-returns-in-CanSend : goal.expr::value-returns-in-CanSend
expr::value-returns-in-CanSend t c =
    by_part (λ (x : Coded). OnOk c.used-in-CanSend.result (c.used-in-CanSend.new.code ≡ c.args.code.now ++ x.value c.args.dest c.args.to)) (spot_of c.args.s) c.args.e.now _ (λ (x : TExpr). can_send_coded (spot_of c.args.s) c.in-CanSend.ty (coded (spot_of c.args.s) x)) _ _ c.in-CanSend.is (coded-CanSend (spot_of c.args.s) c.in-CanSend.ty c.in-CanSend.chan) c.get-in-CanSend.ensures c.used-in-CanSend.ensures

pub expr::value-returns-in-MemberOf : goal.expr::value-returns-in-MemberOf
expr::value-returns-in-MemberOf t c =
    by_parts (λ (x : Coded). OnOk c.taken.result (c.taken.new.code ≡ c.args.code.now ++ x.value c.args.dest c.args.to)) (spot_of c.args.s) c.args.e.now _ (λ (x : TExpr) (y : List ℕ). member_coded (spot_of c.args.s) (type_of x) c.in-MemberOf.ty y (coded (spot_of c.args.s) x)) _ _ _ _ c.in-MemberOf.is (coded-MemberOf (spot_of c.args.s) c.in-MemberOf.ty c.in-MemberOf.value c.in-MemberOf.path) c.get-in-MemberOf.ensures c.as_slice-path.ensures.value c.taken.ensures

pub expr::value-returns-in-Cast : goal.expr::value-returns-in-Cast
expr::value-returns-in-Cast t c =
    by_conversion (λ (x : Coded). OnOk c.changed_value.result (c.changed_value.new.code ≡ c.args.code.now ++ x.value c.args.dest c.args.to)) (spot_of c.args.s) c.args.e.now _ _ _ _ (sym (open_folded (spot_of c.args.s) c.args.e.now _ c.in_ok-bits.ensures.made c.in-Open.is)) refl c.in-Cast.is c.get-in-Cast.ensures (subst (λ (ops : List Operation). OnOk c.changed_value.result (c.changed_value.new.code ≡ c.args.code.now ++ ops)) (sym (converted_changes (spot_of c.args.s) (type_of c.get-in-Cast.result.now) c.in-Cast.ty (coded (spot_of c.args.s) c.get-in-Cast.result.now) c.args.dest c.args.to (changed (open_same (spot_of c.args.s) c.args.e.now _ c.in_ok-bits.ensures.made c.in-Open.is) c.in-Cast.is c.get-in-Cast.ensures))) c.changed_value.ensures)

pub expr::value-returns-in-Sequence : goal.expr::value-returns-in-Sequence
expr::value-returns-in-Sequence t c =
    by_parts (λ (x : Coded). OnOk c.sequence_value.result (c.sequence_value.new.code ≡ c.args.code.now ++ x.value c.args.dest c.args.to)) (spot_of c.args.s) c.args.e.now _ (λ (x : List TExpr) (y : TExpr). sequence_coded (spot_of c.args.s) c.in-Sequence.ty (row_of (spot_of c.args.s) x) (coded (spot_of c.args.s) y)) _ _ _ _ c.in-Sequence.is (coded-Sequence (spot_of c.args.s) c.in-Sequence.ty c.in-Sequence.first c.in-Sequence.last) c.as_slice-in-Sequence.ensures.value c.get-in-Sequence.ensures c.sequence_value.ensures

pub expr::value-returns-in-Iterator : goal.expr::value-returns-in-Iterator
expr::value-returns-in-Iterator t c =
    by_form (λ (x : Coded). OnOk c.turn.result (c.turn.new.code ≡ c.args.code.now ++ x.value c.args.dest c.args.to)) (spot_of c.args.s) c.args.e.now _ _ c.in-Iterator.is (coded-Iterator (spot_of c.args.s) c.in-Iterator.ty c.in-Iterator.number) (c.turn.ensures c.in-Iterator.ty c.args.to)

pub expr::value-returns-in-SizeofPlace : goal.expr::value-returns-in-SizeofPlace
expr::value-returns-in-SizeofPlace t c =
    absurd (some_none _ _ (folded-SizeofPlace (spot_of c.args.s) c.in-SizeofPlace.ty c.in-SizeofPlace.place) (not_folded (spot_of c.args.s) c.args.e.now _ _ (sym (open_folded (spot_of c.args.s) c.args.e.now _ c.in_ok-bits.ensures.made c.in-Open.is)) refl c.in-SizeofPlace.is))

pub expr::value-returns-in-SizeofValue : goal.expr::value-returns-in-SizeofValue
expr::value-returns-in-SizeofValue t c =
    absurd (some_none _ _ (folded-SizeofValue (spot_of c.args.s) c.in-SizeofValue.ty c.in-SizeofValue.value) (not_folded (spot_of c.args.s) c.args.e.now _ _ (sym (open_folded (spot_of c.args.s) c.args.e.now _ c.in_ok-bits.ensures.made c.in-Open.is)) refl c.in-SizeofValue.is))

pub expr::effect-returns-in-Assign : goal.expr::effect-returns-in-Assign
expr::effect-returns-in-Assign t c =
    by_parts (λ (x : Coded). OnOk c.assigns.result (c.assigns.new.code ≡ c.args.code.now ++ x.effect c.args.to)) (spot_of c.args.s) c.args.e.now _ (λ (x : TTarget) (y : TExpr). assign_coded (spot_of c.args.s) c.in-Assign.ty (aimed (spot_of c.args.s) x) (coded (spot_of c.args.s) y)) _ _ _ _ c.in-Assign.is (coded-Assign (spot_of c.args.s) c.in-Assign.ty c.in-Assign.target c.in-Assign.value) c.get.ensures c.get-in-Assign.ensures c.assigns.ensures

pub expr::effect-returns-in-Update : goal.expr::effect-returns-in-Update
expr::effect-returns-in-Update t c =
    by_parts (λ (x : Coded). OnOk c.update.result (c.update.new.code ≡ c.args.code.now ++ x.effect c.args.to)) (spot_of c.args.s) c.args.e.now _ (λ (x : TPlace) (y : TExpr). update_coded (spot_of c.args.s) c.in-Update.ty (placed (spot_of c.args.s) x) c.in-Update.change (coded (spot_of c.args.s) y)) _ _ _ _ c.in-Update.is (coded-Update (spot_of c.args.s) c.in-Update.ty c.in-Update.place c.in-Update.change c.in-Update.value) c.get-in-Update.ensures c.get-in-Update-2.ensures c.update.ensures

pub expr::effect-returns-in-Step : goal.expr::effect-returns-in-Step
expr::effect-returns-in-Step t c =
    by_part (λ (x : Coded). OnOk c.stepped.result (c.stepped.new.code ≡ c.args.code.now ++ x.effect c.args.to)) (spot_of c.args.s) c.args.e.now _ (λ (x : TPlace). stepped_coded (spot_of c.args.s) c.in-Step.ty c.in-Step.op (placed (spot_of c.args.s) x)) _ _ c.in-Step.is (coded-Step (spot_of c.args.s) c.in-Step.ty c.in-Step.op c.in-Step.place) c.get-in-Step.ensures c.stepped.ensures

pub expr::effect-returns-in-Zerox : goal.expr::effect-returns-in-Zerox
expr::effect-returns-in-Zerox t c =
    by_part (λ (x : Coded). OnOk c.stepped-in-Zerox.result (c.stepped-in-Zerox.new.code ≡ c.args.code.now ++ x.effect c.args.to)) (spot_of c.args.s) c.args.e.now _ (λ (x : TPlace). zerox_coded (spot_of c.args.s) c.in-Zerox.ty (placed (spot_of c.args.s) x)) _ _ c.in-Zerox.is (coded-Zerox (spot_of c.args.s) c.in-Zerox.ty c.in-Zerox.place) c.get-in-Zerox.ensures c.stepped-in-Zerox.ensures

pub expr::effect-returns-in-Call : goal.expr::effect-returns-in-Call
expr::effect-returns-in-Call t c =
    by_form (λ (x : Coded). OnOk c.call.result (c.call.new.code ≡ c.args.code.now ++ x.effect c.args.to)) (spot_of c.args.s) c.args.e.now _ _ c.in-Call.is (coded-Call (spot_of c.args.s) c.in-Call.ty c.in-Call.function c.in-Call.receiver c.in-Call.arguments) c.call.ensures

pub expr::effect-returns-in-CallPointer : goal.expr::effect-returns-in-CallPointer
expr::effect-returns-in-CallPointer t c =
    by_part (λ (x : Coded). OnOk c.call_pointer.result (c.call_pointer.new.code ≡ c.args.code.now ++ x.effect c.args.to)) (spot_of c.args.s) c.args.e.now _ (λ (x : TExpr). call_pointer_coded (spot_of c.args.s) c.in-CallPointer.ty (class_number c.args.s.program.now (pointee (type_of x))) (coded (spot_of c.args.s) x) (row_of (spot_of c.args.s) c.in-CallPointer.arguments)) _ _ c.in-CallPointer.is (coded-CallPointer (spot_of c.args.s) c.in-CallPointer.ty c.in-CallPointer.pointer c.in-CallPointer.arguments) c.get-in-CallPointer.ensures c.call_pointer.ensures

pub expr::effect-returns-in-Sequence : goal.expr::effect-returns-in-Sequence
expr::effect-returns-in-Sequence t c =
    by_parts (λ (x : Coded). OnOk c.sequence_effect.result (c.sequence_effect.new.code ≡ c.args.code.now ++ x.effect c.args.to)) (spot_of c.args.s) c.args.e.now _ (λ (x : List TExpr) (y : TExpr). sequence_coded (spot_of c.args.s) c.in-Sequence.ty (row_of (spot_of c.args.s) x) (coded (spot_of c.args.s) y)) _ _ _ _ c.in-Sequence.is (coded-Sequence (spot_of c.args.s) c.in-Sequence.ty c.in-Sequence.first c.in-Sequence.last) c.as_slice.ensures.value c.get-in-Sequence.ensures c.sequence_effect.ensures

pub expr::effect-returns-in_default : goal.expr::effect-returns-in_default
expr::effect-returns-in_default t c =
    subst (λ (ops : List Operation). OnOk c.dropped.result (c.dropped.new.code ≡ c.args.code.now ++ ops)) (sym (drops_rest (spot_of c.args.s) c.args.e.now (open_folded (spot_of c.args.s) c.args.e.now _ c.in_ok-form_of.ensures.made c.in-Open.is) (open_same (spot_of c.args.s) c.args.e.now _ c.in_ok-form_of.ensures.made c.in-Open.is) c.in_default.not-Assign c.in_default.not-Update c.in_default.not-Step c.in_default.not-Zerox c.in_default.not-Call c.in_default.not-CallPointer c.in_default.not-Sequence c.args.to)) c.dropped.ensures

pub expr::unless-returns-in-Not : goal.expr::unless-returns-in-Not
expr::unless-returns-in-Not t c =
    by_part (λ (x : Coded). OnOk c.used.result (c.used.new.code ≡ c.args.code.now ++ x.unless c.args.to c.args.count)) (spot_of c.args.s) c.args.e.now _ (λ (x : TExpr). negation_coded (spot_of c.args.s) c.in-Not.ty (words (spot_of c.args.s) (type_of x)) (coded (spot_of c.args.s) x)) _ _ c.in-Not.is (open-Not (spot_of c.args.s) c.in-Not.ty c.in-Not.of (not_folded (spot_of c.args.s) c.args.e.now _ _ (sym (open_folded (spot_of c.args.s) c.args.e.now _ c.in_ok-bits.ensures.made c.in-Open.is)) refl c.in-Not.is)) c.get.ensures c.used.ensures

pub expr::unless-returns-then-compares_words : goal.expr::unless-returns-then-compares_words
expr::unless-returns-then-compares_words t c =
    by_parts (λ (x : Coded). OnOk c.joined.result (c.joined.new.code ≡ c.args.code.now ++ x.unless c.args.to c.args.count)) (spot_of c.args.s) c.args.e.now _ (λ (x : TExpr) (y : TExpr). binary_coded (spot_of c.args.s) c.in-Binary.ty c.in-Binary.op c.in-Binary.kind (words (spot_of c.args.s) (type_of x)) (coded (spot_of c.args.s) x) (coded (spot_of c.args.s) y)) _ _ _ _ c.in-Binary.is (open-Binary (spot_of c.args.s) c.in-Binary.ty c.in-Binary.op c.in-Binary.kind c.in-Binary.left c.in-Binary.right (not_folded (spot_of c.args.s) c.args.e.now _ _ (sym (open_folded (spot_of c.args.s) c.args.e.now _ c.in_ok-bits.ensures.made c.in-Open.is)) refl c.in-Binary.is)) c.get-then-compares_words.ensures c.get-then-compares_words-2.ensures (subst (λ (ops : List Operation). OnOk c.joined.result (c.joined.new.code ≡ c.args.code.now ++ ops)) (sym (binary_compares (spot_of c.args.s) c.in-Binary.ty c.in-Binary.op c.in-Binary.kind (words (spot_of c.args.s) (type_of c.get-then-compares_words.result.now)) (coded (spot_of c.args.s) c.get-then-compares_words.result.now) (coded (spot_of c.args.s) c.get-then-compares_words-2.result.now) c.args.to c.args.count (sym c.compares_words.ensures ∙ c.if-compares_words.true))) c.joined.ensures)

pub expr::unless-returns-else-compares_words : goal.expr::unless-returns-else-compares_words
expr::unless-returns-else-compares_words t c =
    subst (λ (ops : List Operation). OnOk c.used-else-compares_words.result (c.used-else-compares_words.new.code ≡ c.args.code.now ++ ops)) (sym (decides_pair (spot_of c.args.s) c.args.e.now c.in-Binary.ty c.in-Binary.op c.in-Binary.kind c.in-Binary.left c.in-Binary.right c.in-Binary.is (not_folded (spot_of c.args.s) c.args.e.now _ _ (sym (open_folded (spot_of c.args.s) c.args.e.now _ c.in_ok-bits.ensures.made c.in-Open.is)) refl c.in-Binary.is) (sym c.compares_words.ensures ∙ c.if-compares_words.false) c.args.to c.args.count)) c.used-else-compares_words.ensures

pub expr::unless-returns-in-Logical : goal.expr::unless-returns-in-Logical
expr::unless-returns-in-Logical t c =
    by_parts (λ (x : Coded). OnOk c.logical_unless.result (c.logical_unless.new.code ≡ c.args.code.now ++ x.unless c.args.to c.args.count)) (spot_of c.args.s) c.args.e.now _ (λ (x : TExpr) (y : TExpr). logical_coded (spot_of c.args.s) c.in-Logical.ty c.in-Logical.op (words (spot_of c.args.s) (type_of y)) (coded (spot_of c.args.s) x) (coded (spot_of c.args.s) y)) _ _ _ _ c.in-Logical.is (open-Logical (spot_of c.args.s) c.in-Logical.ty c.in-Logical.op c.in-Logical.left c.in-Logical.right (not_folded (spot_of c.args.s) c.args.e.now _ _ (sym (open_folded (spot_of c.args.s) c.args.e.now _ c.in_ok-bits.ensures.made c.in-Open.is)) refl c.in-Logical.is)) c.get-in-Logical.ensures c.get-in-Logical-2.ensures (subst (λ (ops : List Operation). OnOk c.logical_unless.result (c.logical_unless.new.code ≡ c.args.code.now ++ ops)) (sym (logical_decides (spot_of c.args.s) c.in-Logical.ty c.in-Logical.op (words (spot_of c.args.s) (type_of c.get-in-Logical-2.result.now)) (coded (spot_of c.args.s) c.get-in-Logical.result.now) (coded (spot_of c.args.s) c.get-in-Logical-2.result.now) c.args.to c.args.count)) c.logical_unless.ensures)

pub expr::unless-returns-in_default : goal.expr::unless-returns-in_default
expr::unless-returns-in_default t c =
    subst (λ (ops : List Operation). OnOk c.used-in_default.result (c.used-in_default.new.code ≡ c.args.code.now ++ ops)) (sym (decides_rest (spot_of c.args.s) c.args.e.now (open_folded (spot_of c.args.s) c.args.e.now _ c.in_ok-bits.ensures.made c.in-Open.is) (open_same (spot_of c.args.s) c.args.e.now _ c.in_ok-bits.ensures.made c.in-Open.is) c.in_default.not-Not c.in_default.not-Binary c.in_default.not-Logical c.args.to c.args.count)) c.used-in_default.ensures

pub expr::pointer-returns-in-Decay : goal.expr::pointer-returns-in-Decay
expr::pointer-returns-in-Decay t c =
    by_part (λ (x : Coded). OnOk c.place.result (c.place.new.code ≡ c.args.code.now ++ x.pointer c.args.lasting c.args.to)) (spot_of c.args.s) c.args.e.now _ (λ (x : TPlace). address_coded (spot_of c.args.s) c.in-Decay.ty (placed (spot_of c.args.s) x)) _ _ c.in-Decay.is (coded-Decay (spot_of c.args.s) c.in-Decay.ty c.in-Decay.at) c.get.ensures c.place.ensures

pub expr::pointer-returns-in-Address : goal.expr::pointer-returns-in-Address
expr::pointer-returns-in-Address t c =
    by_part (λ (x : Coded). OnOk c.place-in-Address.result (c.place-in-Address.new.code ≡ c.args.code.now ++ x.pointer c.args.lasting c.args.to)) (spot_of c.args.s) c.args.e.now _ (λ (x : TPlace). address_coded (spot_of c.args.s) c.in-Address.ty (placed (spot_of c.args.s) x)) _ _ c.in-Address.is (coded-Address (spot_of c.args.s) c.in-Address.ty c.in-Address.at) c.get-in-Address.ensures c.place-in-Address.ensures

pub expr::pointer-returns-in_default : goal.expr::pointer-returns-in_default
expr::pointer-returns-in_default t c =
    subst (λ (ops : List Operation). OnOk c.value_pointer.result (c.value_pointer.new.code ≡ c.args.code.now ++ ops)) (sym (points_rest (spot_of c.args.s) c.args.e.now (open_folded (spot_of c.args.s) c.args.e.now _ c.in_ok-form_of.ensures.made c.in-Open.is) (open_same (spot_of c.args.s) c.args.e.now _ c.in_ok-form_of.ensures.made c.in-Open.is) c.in_default.not-Decay c.in_default.not-Address c.args.lasting c.args.to)) c.value_pointer.ensures

pub expr::place-returns-in-Global : goal.expr::place-returns-in-Global
expr::place-returns-in-Global t c =
    place_by_form (λ (x : Placed). OnOk c.global.result (c.global.new.code ≡ c.args.code.now ++ x.code c.args.lasting c.args.to)) (spot_of c.args.s) c.args.p.now _ _ c.in-Global.is (placed-Global (spot_of c.args.s) c.in-Global.ty c.in-Global.number) (c.global.ensures c.args.lasting)

pub expr::place-returns-in-Pointed : goal.expr::place-returns-in-Pointed
expr::place-returns-in-Pointed t c =
    place_by_part (λ (x : Placed). OnOk c.pointer.result (c.pointer.new.code ≡ c.args.code.now ++ x.code c.args.lasting c.args.to)) (spot_of c.args.s) c.args.p.now _ (λ (x : TExpr). pointed_placed 0 (coded (spot_of c.args.s) x)) _ _ c.in-Pointed.is (placed-Pointed (spot_of c.args.s) c.in-Pointed.ty c.in-Pointed.e) c.get.ensures c.pointer.ensures

pub expr::place-returns-in-PointedMember : goal.expr::place-returns-in-PointedMember
expr::place-returns-in-PointedMember t c =
    place_by_part (λ (x : Placed). OnOk c.pointer-in-PointedMember.result (c.pointer-in-PointedMember.new.code ≡ c.args.code.now ++ x.code c.args.lasting c.args.to)) (spot_of c.args.s) c.args.p.now _ (λ (x : TExpr). pointed_placed (path_offset c.args.s.program.now (pointee (type_of x)) c.in-PointedMember.path) (coded (spot_of c.args.s) x)) _ _ c.in-PointedMember.is (placed-PointedMember (spot_of c.args.s) c.in-PointedMember.ty c.in-PointedMember.e c.in-PointedMember.path) c.get-in-PointedMember.ensures c.pointer-in-PointedMember.ensures

pub expr::place-returns-in-Element : goal.expr::place-returns-in-Element
expr::place-returns-in-Element t c =
    place_by_parts (λ (x : Placed). OnOk c.element.result (c.element.new.code ≡ c.args.code.now ++ x.code c.args.lasting c.args.to)) (spot_of c.args.s) c.args.p.now _ (λ (x : TExpr) (y : TExpr). element_placed (spot_of c.args.s) (size (spot_of c.args.s) c.in-Element.ty) (coded (spot_of c.args.s) x) (coded (spot_of c.args.s) y)) _ _ _ _ c.in-Element.is (placed-Element (spot_of c.args.s) c.in-Element.ty c.in-Element.base c.in-Element.index) c.get-in-Element.ensures c.get-in-Element-2.ensures c.element.ensures

pub expr::place-returns-in-Member : goal.expr::place-returns-in-Member
expr::place-returns-in-Member t c =
    place_by_part (λ (x : Placed). OnOk c.place.result (c.place.new.code ≡ c.args.code.now ++ x.code c.args.lasting c.args.to)) (spot_of c.args.s) c.args.p.now _ (λ (x : TPlace). member_placed (path_offset c.args.s.program.now (place_type x) c.in-Member.path) (placed (spot_of c.args.s) x)) _ _ c.in-Member.is (placed-Member (spot_of c.args.s) c.in-Member.ty c.in-Member.of c.in-Member.path) c.get-in-Member.ensures c.place.ensures

pub actions::targets-loop-x-preserved : goal.actions::targets-loop-x-preserved
actions::targets-loop-x-preserved t c =
    rw (c.in_ok-target.ensures, c.in_ok-at.ensures, c.in_ok-count_targets.ensures)
    (aims_more (spot_of c.args.s) c.args.xs.now c.loop-x.x-index c.x-item.result c.loop-x.at c.loop-x.code _ c.loop-x-test.true c.x-item.is c.loop-x.invariant)

pub actions::targets-returns : goal.actions::targets-returns
actions::targets-returns t c =
    aims_done (spot_of c.args.s) c.args.xs.now c.loop-x.x-index c.loop-x.at c.loop-x.code _ (omega (arith, c.loop-x-test.false)) c.loop-x.invariant

pub actions::target-returns-in-Into : goal.actions::target-returns-in-Into
actions::target-returns-in-Into t c =
    subst (λ (a : Aimed). OnOk c.place.result (c.place.new.code ≡ c.args.code.now ++ a.code c.args.to))
    (sym (ap (aimed (spot_of c.args.s)) c.in-Into.is ∙ aimed-Into (spot_of c.args.s) _ ∙ ap (λ (x : TPlace). single_aimed (spot_of c.args.s) (place_type x) (placed (spot_of c.args.s) x)) (sym c.get.ensures)))
    c.place.ensures

pub actions::target-returns-in-Parts : goal.actions::target-returns-in-Parts
actions::target-returns-in-Parts t c =
    subst (λ (a : Aimed). OnOk c.targets.result (c.targets.new.code ≡ c.args.code.now ++ a.code c.args.to))
    (sym (ap (aimed (spot_of c.args.s)) c.in-Parts.is ∙ aimed-Parts (spot_of c.args.s) c.in-Parts.ty c.in-Parts.parts ∙ ap (aimed_of (spot_of c.args.s)) (sym c.as_slice.ensures.value)))
    c.targets.ensures

pub actions::assign-returns-in-Into-clause-code : goal.actions::assign-returns-in-Into-clause-code
actions::assign-returns-in-Into-clause-code t c =
    subst (λ (a : Aimed). OnOk c.assign_one.result (c.assign_one.new.code ≡ c.args.code.now ++ (assign_coded (spot_of c.args.s) c.args.ty.now a (coded (spot_of c.args.s) c.args.e.now)).effect c.args.to))
    (sym (ap (aimed (spot_of c.args.s)) c.in-Into.is ∙ aimed-Into (spot_of c.args.s) _ ∙ ap (λ (x : TPlace). single_aimed (spot_of c.args.s) (place_type x) (placed (spot_of c.args.s) x)) (sym c.get.ensures)))
    c.assign_one.ensures.code

pub actions::assign-returns-in-Into-clause-slot : goal.actions::assign-returns-in-Into-clause-slot
actions::assign-returns-in-Into-clause-slot t c =
    subst (λ (a : Aimed). IfOk c.assign_one.result (λ slot. slot ≡ value_slot a (coded (spot_of c.args.s) c.args.e.now) c.args.to))
    (sym (ap (aimed (spot_of c.args.s)) c.in-Into.is ∙ aimed-Into (spot_of c.args.s) _ ∙ ap (λ (x : TPlace). single_aimed (spot_of c.args.s) (place_type x) (placed (spot_of c.args.s) x)) (sym c.get.ensures)))
    c.assign_one.ensures.slot

pub actions::assign-returns-in-Dropped-clause-code : goal.actions::assign-returns-in-Dropped-clause-code
actions::assign-returns-in-Dropped-clause-code t c =
    subst (λ (ops : List Operation). OnOk c.assign_parts.result (c.assign_parts.new.code ≡ c.args.code.now ++ ops))
    (parts_assigned (spot_of c.args.s) c.args.ty.now (aimed (spot_of c.args.s) c.args.x.now) (coded (spot_of c.args.s) c.args.e.now) c.args.to (ap (λ (x : TTarget). (aimed (spot_of c.args.s) x).single) c.in-Dropped.is))
    c.assign_parts.ensures.code

pub actions::assign-returns-in-Dropped-clause-slot : goal.actions::assign-returns-in-Dropped-clause-slot
actions::assign-returns-in-Dropped-clause-slot t c =
    subst (λ (n : ℕ). IfOk c.assign_parts.result (λ slot. slot ≡ n))
    (parts_slot (aimed (spot_of c.args.s) c.args.x.now) (coded (spot_of c.args.s) c.args.e.now) c.args.to (ap (λ (x : TTarget). (aimed (spot_of c.args.s) x).single) c.in-Dropped.is))
    c.assign_parts.ensures.slot

pub actions::assign-returns-in-Parts-clause-code : goal.actions::assign-returns-in-Parts-clause-code
actions::assign-returns-in-Parts-clause-code t c =
    subst (λ (ops : List Operation). OnOk c.assign_parts-in-Parts.result (c.assign_parts-in-Parts.new.code ≡ c.args.code.now ++ ops))
    (parts_assigned (spot_of c.args.s) c.args.ty.now (aimed (spot_of c.args.s) c.args.x.now) (coded (spot_of c.args.s) c.args.e.now) c.args.to (ap (λ (x : TTarget). (aimed (spot_of c.args.s) x).single) c.in-Parts.is ∙ ap (λ (a : Aimed). a.single) (aimed-Parts (spot_of c.args.s) c.in-Parts.ty c.in-Parts.parts) ∙ row_has_no_single (spot_of c.args.s) c.in-Parts.parts))
    c.assign_parts-in-Parts.ensures.code

pub actions::assign-returns-in-Parts-clause-slot : goal.actions::assign-returns-in-Parts-clause-slot
actions::assign-returns-in-Parts-clause-slot t c =
    subst (λ (n : ℕ). IfOk c.assign_parts-in-Parts.result (λ slot. slot ≡ n))
    (parts_slot (aimed (spot_of c.args.s) c.args.x.now) (coded (spot_of c.args.s) c.args.e.now) c.args.to (ap (λ (x : TTarget). (aimed (spot_of c.args.s) x).single) c.in-Parts.is ∙ ap (λ (a : Aimed). a.single) (aimed-Parts (spot_of c.args.s) c.in-Parts.ty c.in-Parts.parts) ∙ row_has_no_single (spot_of c.args.s) c.in-Parts.parts))
    c.assign_parts-in-Parts.ensures.slot

pub calls::received-returns-in-Place : goal.calls::received-returns-in-Place
calls::received-returns-in-Place t c =
    subst (λ (g : Given). OnOk c.found.result (c.found.new.code ≡ c.args.code.now ++ g.code c.args.to))
    (sym (ap (received_object (spot_of c.args.s)) c.in-Place.is ∙ received_object-Place (spot_of c.args.s) c.in-Place.place c.in-Place.path c.in-Place.passed
    ∙ ap₂ (λ (x : TPlace) (path : List ℕ). object_placed (spot_of c.args.s) c.in-Place.passed (place_type x) path (placed (spot_of c.args.s) x)) (sym c.get.ensures) (sym c.as_slice-path.ensures.value)))
    (as_ok c.found.result _ _ _ _ (found_object (spot_of c.args.s) c.in-Place.passed _ _ _ c.args.to) c.found.ensures)

pub calls::received-returns-in-Value : goal.calls::received-returns-in-Value
calls::received-returns-in-Value t c =
    subst (λ (g : Given). OnOk c.received_value.result (c.received_value.new.code ≡ c.args.code.now ++ g.code c.args.to))
    (sym (ap (received_object (spot_of c.args.s)) c.in-Value.is ∙ received_object-Value (spot_of c.args.s) c.in-Value.value c.in-Value.path c.in-Value.passed
    ∙ ap₂ (λ (e : TExpr) (path : List ℕ). object_valued (spot_of c.args.s) c.in-Value.passed (type_of e) path (coded (spot_of c.args.s) e)) (sym c.get-in-Value.ensures) (sym c.as_slice.ensures.value)))
    c.received_value.ensures

pub calls::received-returns-in-Pointer : goal.calls::received-returns-in-Pointer
calls::received-returns-in-Pointer t c =
    subst (λ (g : Given). OnOk c.received_pointed.result (c.received_pointed.new.code ≡ c.args.code.now ++ g.code c.args.to))
    (sym (ap (received_object (spot_of c.args.s)) c.in-Pointer.is ∙ received_object-Pointer (spot_of c.args.s) c.in-Pointer.pointer c.in-Pointer.path c.in-Pointer.passed
    ∙ ap₂ (λ (e : TExpr) (path : List ℕ). object_pointed (spot_of c.args.s) c.in-Pointer.passed (type_of e) path (coded (spot_of c.args.s) e)) (sym c.get-in-Pointer.ensures) (sym c.as_slice-in-Pointer.ensures.value)))
    c.received_pointed.ensures

pub actions::assigns-returns : goal.actions::assigns-returns
actions::assigns-returns t c =
    then_ok c.kept.result _ _ _ _ _ _ c.in_ok-slot.ensures.code
    (ap (λ (slot : ℕ). (assign_coded (spot_of c.args.s) c.args.ty.now (aimed (spot_of c.args.s) c.args.x.now) (coded (spot_of c.args.s) c.args.e.now)).effect c.args.to ++ kept (spot_of c.args.s) c.args.ty.now c.args.dest slot) c.in_ok-slot.ensures.slot
    ∙ assignment (spot_of c.args.s) c.args.ty.now (aimed (spot_of c.args.s) c.args.x.now) (coded (spot_of c.args.s) c.args.e.now) c.args.dest c.args.to)
    c.kept.ensures

pub actions::change-returns-then-branch : goal.actions::change-returns-then-branch
actions::change-returns-then-branch t c =
    all_made (spot_of c.args.s) c.args.ty.now c.args.how (coded (spot_of c.args.s) c.args.e.now) c.args.new c.args.old c.args.code.now c.change_constant.new.code _ c.in_ok-change_constant.ensures c.if-branch.true c.args.to

pub actions::change-returns : goal.actions::change-returns
actions::change-returns t c =
    then_ok c.change_by.result _ _ _ _ _ _
    (c.in_ok-right.ensures.code ∙ ap (λ (ops : List Operation). ops ++ operand_code (coded (spot_of c.args.s) c.args.e.now) c.args.to) (none_made (spot_of c.args.s) c.args.ty.now c.args.how (coded (spot_of c.args.s) c.args.e.now) c.args.new c.args.old c.args.code.now c.change_constant.new.code _ c.in_ok-change_constant.ensures c.if-branch.false))
    (ap (λ (slot : ℕ). operand_code (coded (spot_of c.args.s) c.args.e.now) c.args.to ++ change_by (spot_of c.args.s) c.args.ty.now c.args.how c.args.new c.args.old slot) c.in_ok-right.ensures.slot
    ∙ sym (left_to_make (spot_of c.args.s) c.args.ty.now c.args.how (coded (spot_of c.args.s) c.args.e.now) c.args.new c.args.old c.args.code.now c.change_constant.new.code _ c.in_ok-change_constant.ensures c.if-branch.false c.args.to))
    c.change_by.ensures

pub actions::update_at-returns : goal.actions::update_at-returns
actions::update_at-returns t c =
    then_all c.kept.result _ _ _ _ _ _ _ _ _ _ c.in_ok-it.ensures.code c.in_ok-change.ensures c.in_ok-end_update.ensures
    (update_by (spot_of c.args.s) c.args.ty.now c.args.how (coded (spot_of c.args.s) c.args.e.now) (where_of c.args.at) c.args.dest c.args.to _ _ _ c.in_ok-it.ensures.new c.in_ok-it.ensures.old c.in_ok-it.ensures.free)
    c.kept.ensures

pub actions::update-returns : goal.actions::update-returns
actions::update-returns t c =
    then_ok c.update_at.result _ _ _ _ _ _ c.in_ok-place.ensures
    (placed_update_by (spot_of c.args.s) c.args.ty.now (placed (spot_of c.args.s) c.args.x.now) c.args.how (coded (spot_of c.args.s) c.args.e.now) c.args.dest c.args.to _ _ c.in_ok-lasting.ensures c.in_ok-at.ensures)
    c.update_at.ensures

pub actions::stepped-returns-then-branch : goal.actions::stepped-returns-then-branch
actions::stepped-returns-then-branch t c =
    is_stepped (spot_of c.args.s) c.args.ty.now c.args.how (placed (spot_of c.args.s) c.args.x.now) c.args.dest c.args.to c.args.code.now c.step_slots.new.code _ c.in_ok-step_slots.ensures c.if-branch.true

pub actions::stepped-returns : goal.actions::stepped-returns
actions::stepped-returns t c =
    then_ok c.step_found.result _ _ _ _ _ _
    (c.in_ok-place.ensures ∙ ap (λ (ops : List Operation). ops ++ (placed (spot_of c.args.s) c.args.x.now).code false c.args.to) (not_stepped (spot_of c.args.s) c.args.ty.now c.args.how (placed (spot_of c.args.s) c.args.x.now) c.args.dest c.args.to c.args.code.now c.step_slots.new.code _ c.in_ok-step_slots.ensures c.if-branch.false).0)
    (step_is (spot_of c.args.s) c.args.ty.now c.args.how (placed (spot_of c.args.s) c.args.x.now) c.args.dest c.args.to (not_stepped (spot_of c.args.s) c.args.ty.now c.args.how (placed (spot_of c.args.s) c.args.x.now) c.args.dest c.args.to c.args.code.now c.step_slots.new.code _ c.in_ok-step_slots.ensures c.if-branch.false).1)
    c.step_found.ensures

pub calls::arguments-returns : goal.calls::arguments-returns
calls::arguments-returns t c =
    then_ok c.row_values.result _ _ _ _ _ _ c.in_ok-object.ensures
    (arguments_by (spot_of c.args.s) (object_of (spot_of c.args.s) c.args.object.now) c.args.arguments.now _ c.args.to _ _ c.as_slice.ensures.value c.in_ok-behind.ensures c.in_ok-object_words.ensures)
    c.row_values.ensures

pub calls::call-returns : goal.calls::call-returns
calls::call-returns t c =
    then_ok c.called.result _ _ _ _ _ _ c.in_ok-arguments.ensures
    (call_is (spot_of c.args.s) c.args.ty.now c.args.function (object_of (spot_of c.args.s) c.args.receiver.now) (row_of (spot_of c.args.s) c.args.given.now) c.args.dest c.args.to)
    c.called.ensures

pub calls::call_pointer-returns : goal.calls::call_pointer-returns
calls::call_pointer-returns t c =
    then_both c.called_pointer.result _ _ _ _ _ _ _ _ c.in_ok-value.ensures c.in_ok-row_values.ensures
    (pointed_call_by (spot_of c.args.s) c.args.ty.now (class_number c.args.s.program.now (pointee (type_of c.args.e.now))) (coded (spot_of c.args.s) c.args.e.now) c.args.given.now _ c.args.dest c.args.to _ c.as_slice.ensures.value c.in_ok-slot_behind.ensures)
    (subst (λ (t : Ty). OnOk c.called_pointer.result (c.called_pointer.new.code ≡ c.row_values.new.code ++ called_pointer (spot_of c.args.s) (class_number c.args.s.program.now (pointee t)) c.args.ty.now c.args.dest c.args.to)) c.ty.ensures c.called_pointer.ensures)

pub calls::print_value-returns : goal.calls::print_value-returns
calls::print_value-returns t c =
    then_ok c.print_pieces.result _ _ _ _ _ _ c.in_ok-row_values.ensures
    (ap (λ (xs : List TExpr). (row_of (spot_of c.args.s) xs).values c.args.to ++ pieces_code (spot_of c.args.s) c.args.format.now (map type_of c.args.given.now) c.args.to) c.as_slice.ensures.value)
    c.print_pieces.ensures

pub forms::move_value-returns-in-Some : goal.forms::move_value-returns-in-Some
forms::move_value-returns-in-Some t c =
    as_ok c.used.result _ _ _ _
    (known_by (spot_of c.args.s) c.args.ty.now c.args.movement (coded (spot_of c.args.s) c.args.pointer.now) (coded (spot_of c.args.s) c.args.count.now) c.args.dest c.args.to c.in-Some.n _ _ c.is_back.ensures c.in_ok-size.ensures (sym c.in_ok-n.ensures ∙ c.in-Some.is))
    c.used.ensures

pub forms::move_value-returns-in-Forward : goal.forms::move_value-returns-in-Forward
forms::move_value-returns-in-Forward t c =
    as_ok c.joined.result _ _ _ _
    (forward_by (spot_of c.args.s) c.args.ty.now c.args.movement (coded (spot_of c.args.s) c.args.pointer.now) (coded (spot_of c.args.s) c.args.count.now) c.args.dest c.args.to _ c.in_ok-size.ensures c.in-Forward.is (sym c.in_ok-n.ensures ∙ c.in-None.is))
    c.joined.ensures

pub forms::move_value-returns-in-CountFirst : goal.forms::move_value-returns-in-CountFirst
forms::move_value-returns-in-CountFirst t c =
    as_ok c.joined-in-CountFirst.result _ _ _ _
    (counted_by (spot_of c.args.s) c.args.ty.now c.args.movement (coded (spot_of c.args.s) c.args.pointer.now) (coded (spot_of c.args.s) c.args.count.now) c.args.dest c.args.to _ c.in_ok-size.ensures c.in-CountFirst.is (sym c.in_ok-n.ensures ∙ c.in-None.is))
    c.joined-in-CountFirst.ensures

pub forms::move_value-returns-in-Back : goal.forms::move_value-returns-in-Back
forms::move_value-returns-in-Back t c =
    as_ok c.joined-in-Back.result _ _ _ _
    (back_by (spot_of c.args.s) c.args.ty.now c.args.movement (coded (spot_of c.args.s) c.args.pointer.now) (coded (spot_of c.args.s) c.args.count.now) c.args.dest c.args.to _ c.in_ok-size.ensures c.in-Back.is (sym c.in_ok-n.ensures ∙ c.in-None.is))
    c.joined-in-Back.ensures
