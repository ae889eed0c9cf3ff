-- The operations of every well-typed expression, place and target do what they mean.
use Rattle.al_typed.specs.declared.expression.TExpr.{TExpr, Constant, Text, Nil, Function, SizeofType, Tuple', Call', CallPointer', Print', Sequence', Iterator, Held-TExpr-Call-2, None', Some', Row_of-TExpr, end_of-TExpr, more_of-TExpr, Row_of-TTarget, end_of-TTarget, more_of-TTarget, end_of-TReceiver, more_of-TReceiver}
use Rattle.al_typed.specs.declared.expression.TPlace.{TPlace, Local, Outer, Global}
use Rattle.al_typed.specs.declared.expression.TTarget.{TTarget, Dropped, Parts'}
use Rattle.al_typed.specs.declared.expression.TReceiver.{TReceiver}
use Rattle.al_typed.specs.ExpressionForms as form
use Rattle.al_lower_claims.proofs.Claims.{Setting}
use Rattle.al_lower_expressions.proofs.Premises.{Premises}
use Rattle.al_lower_expressions.proofs.Claims.{ExprClaim, PlaceClaim, TargetClaim, TargetsClaim, ObjectClaim, ReceiverClaim, RowClaim, constant_claim, text_claim, nil_claim, function_claim, load_claim, decay_claim, address_claim, size_claim, place_size_claim, value_size_claim, unary_claim, negation_claim, binary_claim, logical_claim, movement_claim, difference_claim, assign_claim, update_claim, stepped_claim, zerox_claim, tuple_claim, call_claim, call_pointer_claim, print_claim, terminate_claim, receive_claim, send_claim, can_receive_claim, can_send_claim, member_claim, cast_claim, convert_claim, sequence_claim, iterator_claim, local_claim, outer_claim, global_claim, pointed_claim, element_claim, member_in_claim, pointed_member_claim, into_claim, dropped_claim, parts_claim, no_targets_claim, more_targets_claim, no_object_claim, some_object_claim, place_before_claim, value_before_claim, pointer_before_claim, no_row_claim, more_row_claim}

module _ (k : Setting) (h : Premises k) where
  mutual
    pub expr_does : (e : TExpr) → ExprClaim k h e
    expr_does (Constant t n) = constant_claim k h t n
    expr_does (Text t n) = text_claim k h t n
    expr_does (Nil t) = nil_claim k h t
    expr_does (Function t n) = function_claim k h t n
    expr_does (form.load t place) = load_claim k h t place (place_does place)
    expr_does (form.decay t place) = decay_claim k h t place (place_does place)
    expr_does (form.address t place) = address_claim k h t place (place_does place)
    expr_does (SizeofType t of) = size_claim k h t of
    expr_does (form.sizeof_place t place) = place_size_claim k h t place
    expr_does (form.sizeof_value t of) = value_size_claim k h t of
    expr_does (form.unary t op of) = unary_claim k h t op of (expr_does of)
    expr_does (form.negation t of) = negation_claim k h t of (expr_does of)
    expr_does (form.binary t op j left right) = binary_claim k h t op j left right (expr_does left) (expr_does right)
    expr_does (form.logical t op left right) = logical_claim k h t op left right (expr_does left) (expr_does right)
    expr_does (form.movement t how pointer count) = movement_claim k h t how pointer count (expr_does pointer) (expr_does count)
    expr_does (form.difference t left right) = difference_claim k h t left right (expr_does left) (expr_does right)
    expr_does (form.assign t target given) = assign_claim k h t target given (target_does target) (expr_does given)
    expr_does (form.update t place how given) = update_claim k h t place how given (place_does place) (expr_does given)
    expr_does (form.stepped t op place) = stepped_claim k h t op place (place_does place)
    expr_does (form.zerox t place) = zerox_claim k h t place (place_does place)
    expr_does (Tuple' t shape parts) = tuple_claim k h t shape parts (row_does parts)
    expr_does (Call' t n receiver shape arguments) = call_claim k h t n receiver shape arguments (object_does receiver) (row_does arguments)
    expr_does (CallPointer' t _ (more_of-TExpr pointer end_of-TExpr) shape arguments) = call_pointer_claim k h t pointer shape arguments (expr_does pointer) (row_does arguments)
    expr_does (Print' t format shape arguments) = print_claim k h t format shape arguments (row_does arguments)
    expr_does (form.terminate t status) = terminate_claim k h t status (expr_does status)
    expr_does (form.receive t chan) = receive_claim k h t chan (expr_does chan)
    expr_does (form.send t chan given) = send_claim k h t chan given (expr_does chan) (expr_does given)
    expr_does (form.can_receive t chan) = can_receive_claim k h t chan (expr_does chan)
    expr_does (form.can_send t chan) = can_send_claim k h t chan (expr_does chan)
    expr_does (form.member_of t whole path) = member_claim k h t whole path (expr_does whole)
    expr_does (form.cast t of) = cast_claim k h t of (expr_does of)
    expr_does (form.convert t of) = convert_claim k h t of (expr_does of)
    expr_does (Sequence' t shape first _ (more_of-TExpr last end_of-TExpr)) = sequence_claim k h t shape first last (row_does first) (expr_does last)
    expr_does (Iterator t n) = iterator_claim k h t n

    pub place_does : (pl : TPlace) → PlaceClaim k h pl
    place_does (Local t n) = local_claim k h t n
    place_does (Outer t around n) = outer_claim k h t around n
    place_does (Global t n) = global_claim k h t n
    place_does (form.pointed t pointer) = pointed_claim k h t pointer (expr_does pointer)
    place_does (form.element t base index) = element_claim k h t base index (expr_does base) (expr_does index)
    place_does (form.member_in t of path) = member_in_claim k h t of path (place_does of)
    place_does (form.pointed_member t pointer path) = pointed_member_claim k h t pointer path (expr_does pointer)

    pub target_does : (target : TTarget) → TargetClaim k h target
    target_does (form.into place) = into_claim k h place (place_does place)
    target_does (Dropped t) = dropped_claim k h t
    target_does (Parts' t shape parts) = parts_claim k h t shape parts (targets_do parts)

    pub targets_do : {m : _} (parts : Row_of-TTarget m) → TargetsClaim k h parts
    targets_do end_of-TTarget = no_targets_claim k h
    targets_do (more_of-TTarget target rest) = more_targets_claim k h target rest (target_does target) (targets_do rest)

    pub object_does : (o : Held-TExpr-Call-2) → ObjectClaim k h o
    object_does None' = no_object_claim k h
    object_does (Some' _ (more_of-TReceiver receiver end_of-TReceiver)) = some_object_claim k h receiver (receiver_does receiver)

    pub receiver_does : (receiver : TReceiver) → ReceiverClaim k h receiver
    receiver_does (form.place_before place path how) = place_before_claim k h place path how (place_does place)
    receiver_does (form.value_before whole path how) = value_before_claim k h whole path how (expr_does whole)
    receiver_does (form.pointer_before pointer path how) = pointer_before_claim k h pointer path how (expr_does pointer)

    pub row_does : {m : _} (es : Row_of-TExpr m) → RowClaim k h es
    row_does end_of-TExpr = no_row_claim k h
    row_does (more_of-TExpr e rest) = more_row_claim k h e rest (expr_does e) (row_does rest)
