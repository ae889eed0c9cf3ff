-- The operations of every expression, place and target are in the line that they are made in.
use Rattle.al_typed.specs.declared.expression.TExpr.{TExpr, Constant, Text, Nil, Function, SizeofType, Tuple', Call', CallPointer', Print', Sequence', Iterator, Held-TExpr-Call-2, None', Some', Row_of-TExpr, end_of-TExpr, more_of-TExpr, Row_of-TTarget, end_of-TTarget, more_of-TTarget, end_of-TReceiver, more_of-TReceiver}
use Rattle.al_typed.specs.declared.expression.TPlace.{TPlace, Local, Outer, Global}
use Rattle.al_typed.specs.declared.expression.TTarget.{TTarget, Dropped, Parts'}
use Rattle.al_typed.specs.declared.expression.TReceiver.{TReceiver}
use Rattle.al_typed.specs.ExpressionForms as form
use Rattle.al_typed.specs.Typed.{type_of, place_type, target_type, row_types}
use Rattle.al_meaning.specs.Places.{text_place, function_address, path_offset}
use Rattle.al_meaning.specs.Here.{pointee, member_type}
use Rattle.al_lower_code.specs.Homes.{Spot, words, size}
use Rattle.al_lower_code.specs.Values.{binary_coded, converted_coded, logical_coded, member_placed, negation_coded, pointed_placed, unary_coded}
use Rattle.al_lower_code.specs.Classes.{class_number}
use Rattle.al_lower_code.specs.Expressions.{aimed, aimed_row, coded, constant_in, object, placed, received_object, row}
use Rattle.al_lower_bounds.proofs.Forms as value
use Rattle.al_lower_bounds.proofs.Forms.{InLine, IsAimed, IsGiven, IsPlaced, IsRow}
use Rattle.al_lower_bounds.proofs.Changes as does

module _ (s : Spot) where
  mutual
    pub coded_at : (e : TExpr) → InLine s (coded s e)
    coded_at (Constant t bits) = value.constant_at s t bits
    coded_at (Text t number) = value.constant_at s t (text_place s.program number)
    coded_at (Nil t) = value.constant_at s t 0
    coded_at (Function t number) = value.constant_at s t (function_address number)
    coded_at (form.load t place) = value.load_at s t (placed s place) (placed_at place)
    coded_at (form.decay t place) = value.of_address_at s t (placed s place) (placed_at place)
    coded_at (form.address t place) = value.of_address_at s t (placed s place) (placed_at place)
    coded_at (SizeofType t of) = value.constant_at s t (size s of)
    coded_at (form.sizeof_place t place) = value.constant_at s t (size s (place_type place))
    coded_at (form.sizeof_value t of) = value.constant_at s t (size s (type_of of))
    coded_at (form.unary t op of) = value.folded_at s t (constant_in s (form.unary t op of)) (unary_coded s t op (coded s of)) (value.unary_at s t op (coded s of) (coded_at of))
    coded_at (form.negation t of) = value.folded_at s t (constant_in s (form.negation t of)) (negation_coded s t (words s (type_of of)) (coded s of)) (value.not_at s t (words s (type_of of)) (coded s of) (coded_at of))
    coded_at (form.binary t op kind left right) =
        value.folded_at s t (constant_in s (form.binary t op kind left right)) (binary_coded s t op kind (words s (type_of left)) (coded s left) (coded s right))
        (value.binary_at s t op kind (words s (type_of left)) (coded s left) (coded s right) (coded_at left) (coded_at right))
    coded_at (form.logical t op left right) =
        value.folded_at s t (constant_in s (form.logical t op left right)) (logical_coded s t op (words s (type_of right)) (coded s left) (coded s right))
        (value.logical_at s t op (words s (type_of right)) (coded s left) (coded s right) (coded_at left) (coded_at right))
    coded_at (form.movement t how pointer count) = value.movement_at s t how (coded s pointer) (coded s count) (coded_at pointer) (coded_at count)
    coded_at (form.difference t left right) = value.difference_at s t (size s (pointee (type_of left))) (coded s left) (coded s right) (coded_at left) (coded_at right)
    coded_at (form.assign t target of) = does.assign_at s t (aimed s target) (coded s of) (aimed_at target) (coded_at of)
    coded_at (form.update t place change of) = does.update_at s t (placed s place) change (coded s of) (placed_at place) (coded_at of)
    coded_at (form.stepped t op place) = does.stepped_at s t op (placed s place) (placed_at place)
    coded_at (form.zerox t place) = does.zerox_at s t (placed s place) (placed_at place)
    coded_at (Tuple' t _ parts) = value.tuple_at s t (row s parts) (row_at parts)
    coded_at (Call' t function receiver _ arguments) = does.call_at s t function (object s receiver) (row s arguments) (object_at receiver) (row_at arguments)
    coded_at (CallPointer' t _ (more_of-TExpr pointer end_of-TExpr) _ arguments) =
        does.call_pointer_at s t (class_number s.program (pointee (type_of pointer))) (coded s pointer) (row s arguments) (coded_at pointer) (row_at arguments)
    coded_at (Print' t format _ arguments) = does.print_at s t format (row_types arguments) (row s arguments) (row_at arguments)
    coded_at (form.terminate t status) = does.terminate_at s t (coded s status) (coded_at status)
    coded_at (form.receive t chan) = does.receive_at s t (coded s chan) (coded_at chan)
    coded_at (form.send t chan of) = does.send_at s t (type_of of) (coded s chan) (coded s of) (coded_at chan) (coded_at of)
    coded_at (form.can_receive t chan) = does.can_receive_at s t (coded s chan) (coded_at chan)
    coded_at (form.can_send t chan) = does.can_send_at s t (coded s chan) (coded_at chan)
    coded_at (form.member_of t of path) = value.member_at s (type_of of) t path (coded s of) (coded_at of)
    coded_at (form.cast t of) = value.folded_at s t (constant_in s (form.cast t of)) (converted_coded s (type_of of) t (coded s of)) (value.converted_at s (type_of of) t (coded s of) (coded_at of))
    coded_at (form.convert t of) = value.folded_at s t (constant_in s (form.convert t of)) (converted_coded s (type_of of) t (coded s of)) (value.converted_at s (type_of of) t (coded s of) (coded_at of))
    coded_at (Sequence' t _ first _ (more_of-TExpr last end_of-TExpr)) = value.sequence_at s t (row s first) (coded s last) (row_at first) (coded_at last)
    coded_at (Iterator t number) = value.iterator_at s t number

    pub placed_at : (place : TPlace) → IsPlaced s (placed s place)
    placed_at (Local t number) = value.local_at s number
    placed_at (Outer t around number) = value.outer_at s around number
    placed_at (Global t number) = value.global_at s number
    placed_at (form.pointed t pointer) = value.pointed_at s 0 (coded s pointer) (coded_at pointer)
    placed_at (form.element t base index) = value.element_at s (size s t) (coded s base) (coded s index) (coded_at base) (coded_at index)
    placed_at (form.member_in t of path) = λ lasting to. placed_at of lasting to
    placed_at (form.pointed_member t pointer path) = value.pointed_at s (path_offset s.program (pointee (type_of pointer)) path) (coded s pointer) (coded_at pointer)

    pub aimed_at : (target : TTarget) → IsAimed s (aimed s target)
    aimed_at (form.into place) = does.single_at s (place_type place) (placed s place) (placed_at place)
    aimed_at (Dropped t) = does.no_aimed_at s
    aimed_at (Parts' t _ parts) = aimed_row_at parts

    aimed_row_at : {m : _} (parts : Row_of-TTarget m) → IsAimed s (aimed_row s parts)
    aimed_row_at end_of-TTarget = does.no_aimed_at s
    aimed_row_at (more_of-TTarget target rest) = does.aimed_with_at s (words s (target_type target)) (aimed s target) (aimed_row s rest) (aimed_at target) (aimed_row_at rest)

    pub object_at : (receiver : Held-TExpr-Call-2) → IsGiven s (object s receiver)
    object_at None' = does.no_object_at s
    object_at (Some' _ (more_of-TReceiver receiver end_of-TReceiver)) = received_at receiver

    received_at : (receiver : TReceiver) → IsGiven s (received_object s receiver)
    received_at (form.place_before place path how) =
        does.object_place_at s how (member_type s.program (place_type place) path) (member_placed (path_offset s.program (place_type place) path) (placed s place)) (λ lasting to. placed_at place lasting to)
    received_at (form.value_before of path how) =
        does.object_value_at s how (type_of of) (member_type s.program (type_of of) path) path (coded s of) (coded_at of)
    received_at (form.pointer_before pointer path how) =
        does.object_place_at s how (member_type s.program (pointee (type_of pointer)) path) (pointed_placed (path_offset s.program (pointee (type_of pointer)) path) (coded s pointer))
        (value.pointed_at s (path_offset s.program (pointee (type_of pointer)) path) (coded s pointer) (coded_at pointer))

    pub row_at : {m : _} (es : Row_of-TExpr m) → IsRow s (row s es)
    row_at end_of-TExpr = value.no_row_at s
    row_at (more_of-TExpr e rest) = value.row_with_at s (words s (type_of e)) (coded s e) (row s rest) (coded_at e) (row_at rest)
