-- The operations of every expression, place and target.
use Rattle.std.specs.Prelude.{ℕ, Option}
use Rattle.al_typed.specs.declared.expression.TExpr.{TExpr, Constant, Text, Nil, Function, SizeofType, Tuple', Call', CallPointer', Print', Sequence', Iterator, Held-TExpr-Call-2, None', Some', Row_of-TExpr, end_of-TExpr, more_of-TExpr, Row_of-TTarget, end_of-TTarget, more_of-TTarget, end_of-TReceiver, more_of-TReceiver}
use Rattle.al_typed.specs.declared.expression.TPlace.{TPlace, Local, Outer, Global}
use Rattle.al_typed.specs.declared.expression.TTarget.{TTarget, Dropped, Parts'}
use Rattle.al_typed.specs.declared.expression.TReceiver.{TReceiver}
use Rattle.al_typed.specs.ExpressionForms as form
use Rattle.al_typed.specs.Typed.{type_of, place_type, target_type, row_types}
use Rattle.al_constant.specs.Constants.{constant}
use Rattle.al_meaning.specs.Places.{text_place, function_address, path_offset}
use Rattle.al_meaning.specs.Here.{pointee, member_type}
use Rattle.al_lower_code.specs.Homes.{Spot, words, size}
use Rattle.al_lower_code.specs.Coded.{Coded, Placed, Row, Given, Aimed, constant_coded, folded}
use Rattle.al_lower_code.specs.Values.{local_placed, outer_placed, global_placed, pointed_placed, member_placed, element_placed, load_coded, address_coded, iterator_coded, unary_coded, negation_coded, binary_coded, logical_coded, movement_coded, difference_coded, converted_coded, tuple_coded, member_coded, sequence_coded, no_row, row_with}
use Rattle.al_lower_code.specs.Classes.{class_number}
use Rattle.al_lower_code.specs.Actions.{single_aimed, no_aimed, aimed_with, assign_coded, update_coded, stepped_coded, zerox_coded, no_object, object_at, object_in, call_coded, call_pointer_coded, print_coded, terminate_coded, receive_coded, send_coded, can_receive_coded, can_send_coded}

abbrev pub constant_in : Spot → TExpr → Option ℕ
constant_in s e = constant s.program.aggregates e

abbrev mutual
  pub coded : Spot → TExpr → Coded
  coded s (Constant t bits) = constant_coded s t bits
  coded s (Text t number) = constant_coded s t (text_place s.program number)
  coded s (Nil t) = constant_coded s t 0
  coded s (Function t number) = constant_coded s t (function_address number)
  coded s (form.load t place) = load_coded s t (placed s place)
  coded s (form.decay t place) = address_coded s t (placed s place)
  coded s (form.address t place) = address_coded s t (placed s place)
  coded s (SizeofType t of) = constant_coded s t (size s of)
  coded s (form.sizeof_place t place) = constant_coded s t (size s (place_type place))
  coded s (form.sizeof_value t value) = constant_coded s t (size s (type_of value))
  coded s (form.unary t op of) = folded s t (constant_in s (form.unary t op of)) (unary_coded s t op (coded s of))
  coded s (form.negation t of) = folded s t (constant_in s (form.negation t of)) (negation_coded s t (words s (type_of of)) (coded s of))
  coded s (form.binary t op kind left right) =
      folded s t (constant_in s (form.binary t op kind left right)) (binary_coded s t op kind (words s (type_of left)) (coded s left) (coded s right))
  coded s (form.logical t op left right) =
      folded s t (constant_in s (form.logical t op left right)) (logical_coded s t op (words s (type_of right)) (coded s left) (coded s right))
  coded s (form.movement t how pointer count) = movement_coded s t how (coded s pointer) (coded s count)
  coded s (form.difference t left right) = difference_coded s t (size s (pointee (type_of left))) (coded s left) (coded s right)
  coded s (form.assign t target value) = assign_coded s t (aimed s target) (coded s value)
  coded s (form.update t place change value) = update_coded s t (placed s place) change (coded s value)
  coded s (form.stepped t op place) = stepped_coded s t op (placed s place)
  coded s (form.zerox t place) = zerox_coded s t (placed s place)
  coded s (Tuple' t _ parts) = tuple_coded s t (row s parts)
  coded s (Call' t function receiver _ arguments) = call_coded s t function (object s receiver) (row s arguments)
  coded s (CallPointer' t _ (more_of-TExpr pointer end_of-TExpr) _ arguments) =
      call_pointer_coded s t (class_number s.program (pointee (type_of pointer))) (coded s pointer) (row s arguments)
  coded s (Print' t format _ arguments) = print_coded s t format (row_types arguments) (row s arguments)
  coded s (form.terminate t status) = terminate_coded s t (coded s status)
  coded s (form.receive t chan) = receive_coded s t (coded s chan)
  coded s (form.send t chan value) = send_coded s t (type_of value) (coded s chan) (coded s value)
  coded s (form.can_receive t chan) = can_receive_coded s t (coded s chan)
  coded s (form.can_send t chan) = can_send_coded s t (coded s chan)
  coded s (form.member_of t value path) = member_coded s (type_of value) t path (coded s value)
  coded s (form.cast t of) = folded s t (constant_in s (form.cast t of)) (converted_coded s (type_of of) t (coded s of))
  coded s (form.convert t of) = folded s t (constant_in s (form.convert t of)) (converted_coded s (type_of of) t (coded s of))
  coded s (Sequence' t _ first _ (more_of-TExpr last end_of-TExpr)) = sequence_coded s t (row s first) (coded s last)
  coded s (Iterator t number) = iterator_coded s t number

  pub placed : Spot → TPlace → Placed
  placed s (Local t number) = local_placed s number
  placed s (Outer t around number) = outer_placed s around number
  placed s (Global t number) = global_placed s number
  placed s (form.pointed t pointer) = pointed_placed 0 (coded s pointer)
  placed s (form.element t base index) = element_placed s (size s t) (coded s base) (coded s index)
  placed s (form.member_in t of path) = member_placed (path_offset s.program (place_type of) path) (placed s of)
  placed s (form.pointed_member t pointer path) =
      pointed_placed (path_offset s.program (pointee (type_of pointer)) path) (coded s pointer)

  pub aimed : Spot → TTarget → Aimed
  aimed s (form.into place) = single_aimed s (place_type place) (placed s place)
  aimed s (Dropped t) = no_aimed
  aimed s (Parts' t _ parts) = aimed_row s parts

  pub aimed_row : Spot → {m : _} → Row_of-TTarget m → Aimed
  aimed_row s end_of-TTarget = no_aimed
  aimed_row s (more_of-TTarget target rest) = aimed_with (words s (target_type target)) (aimed s target) (aimed_row s rest)

  pub object : Spot → Held-TExpr-Call-2 → Given
  object s None' = no_object
  object s (Some' _ (more_of-TReceiver receiver end_of-TReceiver)) = received_object s receiver

  pub received_object : Spot → TReceiver → Given
  received_object s (form.place_before place path how) =
      object_at s how (member_type s.program (place_type place) path) (member_placed (path_offset s.program (place_type place) path) (placed s place))
  received_object s (form.value_before value path how) =
      object_in s how (type_of value) (member_type s.program (type_of value) path) path (coded s value)
  received_object s (form.pointer_before pointer path how) =
      object_at s how (member_type s.program (pointee (type_of pointer)) path) (pointed_placed (path_offset s.program (pointee (type_of pointer)) path) (coded s pointer))

  pub row : Spot → {m : _} → Row_of-TExpr m → Row
  row s end_of-TExpr = no_row
  row s (more_of-TExpr e rest) = row_with (words s (type_of e)) (coded s e) (row s rest)
