-- The operations of each form of expression, place, target and object.
use Rattle.std.proofs.Common.{◌≡◌, ℕ, List, ◌∷◌, map, Option, Some, None, refl, ap, ap₂, ◌∙◌}
use Rattle.al_base.specs.declared.arith.Kind.{Kind}
use Rattle.al_typed.specs.declared.ty.Ty.{Ty}
use Rattle.al_typed.specs.declared.expression.UnaryOp.{UnaryOp}
use Rattle.al_typed.specs.declared.expression.BinaryOp.{BinaryOp}
use Rattle.al_typed.specs.declared.expression.Logic.{Logic}
use Rattle.al_typed.specs.declared.expression.Movement.{Movement}
use Rattle.al_typed.specs.declared.expression.StepOp.{StepOp}
use Rattle.al_typed.specs.declared.expression.Change.{Change}
use Rattle.al_typed.specs.declared.expression.Passed.{Passed}
use Rattle.al_typed.specs.declared.expression.PrintPiece.{PrintPiece}
use Rattle.al_typed.specs.declared.expression.TExpr.{TExpr, Row_of-TExpr, end_of-TExpr, more_of-TExpr, items-the_row-TExpr, items_hidden-the_row-TExpr-3, Row_of-TTarget, end_of-TTarget, more_of-TTarget, items-the_row-TTarget, items_hidden-the_row-TTarget-5}
use Rattle.al_typed.specs.declared.expression.TExpr.TheBlock.{hidden-the_row-TPlace-0, hidden-the_row-TExpr-1, hidden-the_row-TTarget-2, hidden-the_row-TExpr-3, hidden-the_row-TReceiver-4, hidden-the_row-TTarget-5}
use Rattle.al_typed.specs.declared.expression.TExpr.TheVariants as expr
use Rattle.al_typed.specs.declared.expression.TPlace.{TPlace}
use Rattle.al_typed.specs.declared.expression.TPlace.TheVariants as place
use Rattle.al_typed.specs.declared.expression.TTarget.{TTarget}
use Rattle.al_typed.specs.declared.expression.TTarget.TheVariants as target
use Rattle.al_typed.specs.declared.expression.TReceiver.{TReceiver}
use Rattle.al_typed.specs.declared.expression.TReceiver.TheVariants as receiver
use denote.Hole.Carrier.{hidden}
use Rattle.al_typed.specs.Typed.{type_of, place_type, target_type, row_types}
use Rattle.al_meaning.specs.Places.{text_place, function_address, path_offset}
use Rattle.al_meaning.specs.Here.{pointee, member_type}
use Rattle.al_lower_code.specs.Homes.{Spot, words, size}
use Rattle.al_lower_code.specs.Coded.{Row, constant_coded, folded}
use Rattle.al_lower_code.specs.Values.{local_placed, outer_placed, global_placed, pointed_placed, member_placed, element_placed, load_coded, address_coded, iterator_coded, unary_coded, negation_coded, binary_coded, logical_coded, movement_coded, difference_coded, converted_coded, tuple_coded, member_coded, sequence_coded, row_with}
use Rattle.al_lower_code.specs.Classes.{class_number}
use Rattle.al_lower_code.specs.Actions.{single_aimed, no_aimed, aimed_with, assign_coded, update_coded, stepped_coded, zerox_coded, no_object, object_at, object_in, call_coded, call_pointer_coded, print_coded, terminate_coded, receive_coded, send_coded, can_receive_coded, can_send_coded}
use Rattle.al_lower_code.specs.Expressions.{constant_in, coded, placed, aimed, aimed_row, object, received_object, row}
use Rattle.al_lower_operands.specs.Rows.{row_of, aimed_of, object_of}

-- ---- rows of parts as lists

row_items : (s : Spot) {m : _} (es : Row_of-TExpr m) → row s es ≡ row_of s (items-the_row-TExpr m es)
row_items s end_of-TExpr = refl
row_items s (more_of-TExpr e rest) = ap (row_with (words s (type_of e)) (coded s e)) (row_items s rest)

pub row_is : (s : Spot) (es : List TExpr) → row s (hidden-the_row-TExpr-3 es) ≡ row_of s es
row_is s es = row_items s (hidden-the_row-TExpr-3 es) ∙ ap (row_of s) (items_hidden-the_row-TExpr-3 es)

types_items : {m : _} (es : Row_of-TExpr m) → row_types es ≡ map type_of (items-the_row-TExpr m es)
types_items end_of-TExpr = refl
types_items (more_of-TExpr e rest) = ap (λ ts. type_of e ∷ ts) (types_items rest)

pub types_are : (es : List TExpr) → row_types (hidden-the_row-TExpr-3 es) ≡ map type_of es
types_are es = types_items (hidden-the_row-TExpr-3 es) ∙ ap (map type_of) (items_hidden-the_row-TExpr-3 es)

aimed_items : (s : Spot) {m : _} (xs : Row_of-TTarget m) → aimed_row s xs ≡ aimed_of s (items-the_row-TTarget m xs)
aimed_items s end_of-TTarget = refl
aimed_items s (more_of-TTarget x rest) = ap (aimed_with (words s (target_type x)) (aimed s x)) (aimed_items s rest)

pub aimed_is : (s : Spot) (xs : List TTarget) → aimed_row s (hidden-the_row-TTarget-5 xs) ≡ aimed_of s xs
aimed_is s xs = aimed_items s (hidden-the_row-TTarget-5 xs) ∙ ap (aimed_of s) (items_hidden-the_row-TTarget-5 xs)

-- ---- one equation for each form

pub coded-Constant : (s : Spot) (t : Ty) (bits : ℕ) → coded s (expr.Constant t bits) ≡ constant_coded s t bits
unfolding hidden-the_row-TPlace-0 hidden-the_row-TExpr-1 hidden-the_row-TTarget-2 hidden-the_row-TReceiver-4 hidden
coded-Constant s t bits = refl

pub coded-Text : (s : Spot) (t : Ty) (number : ℕ) → coded s (expr.Text t number) ≡ constant_coded s t (text_place s.program number)
unfolding hidden-the_row-TPlace-0 hidden-the_row-TExpr-1 hidden-the_row-TTarget-2 hidden-the_row-TReceiver-4 hidden
coded-Text s t number = refl

pub coded-Nil : (s : Spot) (t : Ty) → coded s (expr.Nil t) ≡ constant_coded s t 0
unfolding hidden-the_row-TPlace-0 hidden-the_row-TExpr-1 hidden-the_row-TTarget-2 hidden-the_row-TReceiver-4 hidden
coded-Nil s t = refl

pub coded-Function : (s : Spot) (t : Ty) (number : ℕ) → coded s (expr.Function t number) ≡ constant_coded s t (function_address number)
unfolding hidden-the_row-TPlace-0 hidden-the_row-TExpr-1 hidden-the_row-TTarget-2 hidden-the_row-TReceiver-4 hidden
coded-Function s t number = refl

pub coded-Load : (s : Spot) (t : Ty) (x : TPlace) → coded s (expr.Load t x) ≡ load_coded s t (placed s x)
unfolding hidden-the_row-TPlace-0 hidden-the_row-TExpr-1 hidden-the_row-TTarget-2 hidden-the_row-TReceiver-4 hidden
coded-Load s t x = refl

pub coded-Decay : (s : Spot) (t : Ty) (x : TPlace) → coded s (expr.Decay t x) ≡ address_coded s t (placed s x)
unfolding hidden-the_row-TPlace-0 hidden-the_row-TExpr-1 hidden-the_row-TTarget-2 hidden-the_row-TReceiver-4 hidden
coded-Decay s t x = refl

pub coded-Address : (s : Spot) (t : Ty) (x : TPlace) → coded s (expr.Address t x) ≡ address_coded s t (placed s x)
unfolding hidden-the_row-TPlace-0 hidden-the_row-TExpr-1 hidden-the_row-TTarget-2 hidden-the_row-TReceiver-4 hidden
coded-Address s t x = refl

pub coded-SizeofType : (s : Spot) (t : Ty) (of : Ty) → coded s (expr.SizeofType t of) ≡ constant_coded s t (size s of)
unfolding hidden-the_row-TPlace-0 hidden-the_row-TExpr-1 hidden-the_row-TTarget-2 hidden-the_row-TReceiver-4 hidden
coded-SizeofType s t of = refl

pub coded-SizeofPlace : (s : Spot) (t : Ty) (x : TPlace) → coded s (expr.SizeofPlace t x) ≡ constant_coded s t (size s (place_type x))
unfolding hidden-the_row-TPlace-0 hidden-the_row-TExpr-1 hidden-the_row-TTarget-2 hidden-the_row-TReceiver-4 hidden
coded-SizeofPlace s t x = refl

pub coded-SizeofValue : (s : Spot) (t : Ty) (a : TExpr) → coded s (expr.SizeofValue t a) ≡ constant_coded s t (size s (type_of a))
unfolding hidden-the_row-TPlace-0 hidden-the_row-TExpr-1 hidden-the_row-TTarget-2 hidden-the_row-TReceiver-4 hidden
coded-SizeofValue s t a = refl

pub coded-Unary : (s : Spot) (t : Ty) (op : UnaryOp) (a : TExpr) → coded s (expr.Unary t op a) ≡ folded s t (constant_in s (expr.Unary t op a)) (unary_coded s t op (coded s a))
unfolding hidden-the_row-TPlace-0 hidden-the_row-TExpr-1 hidden-the_row-TTarget-2 hidden-the_row-TReceiver-4 hidden
coded-Unary s t op a = refl

pub coded-Not : (s : Spot) (t : Ty) (a : TExpr) → coded s (expr.Not t a) ≡ folded s t (constant_in s (expr.Not t a)) (negation_coded s t (words s (type_of a)) (coded s a))
unfolding hidden-the_row-TPlace-0 hidden-the_row-TExpr-1 hidden-the_row-TTarget-2 hidden-the_row-TReceiver-4 hidden
coded-Not s t a = refl

pub coded-Binary : (s : Spot) (t : Ty) (op : BinaryOp) (k : Kind) (a : TExpr) (b : TExpr) → coded s (expr.Binary t op k a b) ≡ folded s t (constant_in s (expr.Binary t op k a b)) (binary_coded s t op k (words s (type_of a)) (coded s a) (coded s b))
unfolding hidden-the_row-TPlace-0 hidden-the_row-TExpr-1 hidden-the_row-TTarget-2 hidden-the_row-TReceiver-4 hidden
coded-Binary s t op k a b = refl

pub coded-Logical : (s : Spot) (t : Ty) (op : Logic) (a : TExpr) (b : TExpr) → coded s (expr.Logical t op a b) ≡ folded s t (constant_in s (expr.Logical t op a b)) (logical_coded s t op (words s (type_of b)) (coded s a) (coded s b))
unfolding hidden-the_row-TPlace-0 hidden-the_row-TExpr-1 hidden-the_row-TTarget-2 hidden-the_row-TReceiver-4 hidden
coded-Logical s t op a b = refl

pub coded-Move : (s : Spot) (t : Ty) (how : Movement) (a : TExpr) (b : TExpr) → coded s (expr.Move t how a b) ≡ movement_coded s t how (coded s a) (coded s b)
unfolding hidden-the_row-TPlace-0 hidden-the_row-TExpr-1 hidden-the_row-TTarget-2 hidden-the_row-TReceiver-4 hidden
coded-Move s t how a b = refl

pub coded-Difference : (s : Spot) (t : Ty) (a : TExpr) (b : TExpr) → coded s (expr.Difference t a b) ≡ difference_coded s t (size s (pointee (type_of a))) (coded s a) (coded s b)
unfolding hidden-the_row-TPlace-0 hidden-the_row-TExpr-1 hidden-the_row-TTarget-2 hidden-the_row-TReceiver-4 hidden
coded-Difference s t a b = refl

pub coded-Assign : (s : Spot) (t : Ty) (x : TTarget) (a : TExpr) → coded s (expr.Assign t x a) ≡ assign_coded s t (aimed s x) (coded s a)
unfolding hidden-the_row-TPlace-0 hidden-the_row-TExpr-1 hidden-the_row-TTarget-2 hidden-the_row-TReceiver-4 hidden
coded-Assign s t x a = refl

pub coded-Update : (s : Spot) (t : Ty) (x : TPlace) (how : Change) (a : TExpr) → coded s (expr.Update t x how a) ≡ update_coded s t (placed s x) how (coded s a)
unfolding hidden-the_row-TPlace-0 hidden-the_row-TExpr-1 hidden-the_row-TTarget-2 hidden-the_row-TReceiver-4 hidden
coded-Update s t x how a = refl

pub coded-Step : (s : Spot) (t : Ty) (op : StepOp) (x : TPlace) → coded s (expr.Step t op x) ≡ stepped_coded s t op (placed s x)
unfolding hidden-the_row-TPlace-0 hidden-the_row-TExpr-1 hidden-the_row-TTarget-2 hidden-the_row-TReceiver-4 hidden
coded-Step s t op x = refl

pub coded-Zerox : (s : Spot) (t : Ty) (x : TPlace) → coded s (expr.Zerox t x) ≡ zerox_coded s t (placed s x)
unfolding hidden-the_row-TPlace-0 hidden-the_row-TExpr-1 hidden-the_row-TTarget-2 hidden-the_row-TReceiver-4 hidden
coded-Zerox s t x = refl

pub coded-Terminate : (s : Spot) (t : Ty) (a : TExpr) → coded s (expr.Terminate t a) ≡ terminate_coded s t (coded s a)
unfolding hidden-the_row-TPlace-0 hidden-the_row-TExpr-1 hidden-the_row-TTarget-2 hidden-the_row-TReceiver-4 hidden
coded-Terminate s t a = refl

pub coded-Receive : (s : Spot) (t : Ty) (a : TExpr) → coded s (expr.Receive t a) ≡ receive_coded s t (coded s a)
unfolding hidden-the_row-TPlace-0 hidden-the_row-TExpr-1 hidden-the_row-TTarget-2 hidden-the_row-TReceiver-4 hidden
coded-Receive s t a = refl

pub coded-Send : (s : Spot) (t : Ty) (a : TExpr) (b : TExpr) → coded s (expr.Send t a b) ≡ send_coded s t (type_of b) (coded s a) (coded s b)
unfolding hidden-the_row-TPlace-0 hidden-the_row-TExpr-1 hidden-the_row-TTarget-2 hidden-the_row-TReceiver-4 hidden
coded-Send s t a b = refl

pub coded-CanReceive : (s : Spot) (t : Ty) (a : TExpr) → coded s (expr.CanReceive t a) ≡ can_receive_coded s t (coded s a)
unfolding hidden-the_row-TPlace-0 hidden-the_row-TExpr-1 hidden-the_row-TTarget-2 hidden-the_row-TReceiver-4 hidden
coded-CanReceive s t a = refl

pub coded-CanSend : (s : Spot) (t : Ty) (a : TExpr) → coded s (expr.CanSend t a) ≡ can_send_coded s t (coded s a)
unfolding hidden-the_row-TPlace-0 hidden-the_row-TExpr-1 hidden-the_row-TTarget-2 hidden-the_row-TReceiver-4 hidden
coded-CanSend s t a = refl

pub coded-MemberOf : (s : Spot) (t : Ty) (a : TExpr) (path : List ℕ) → coded s (expr.MemberOf t a path) ≡ member_coded s (type_of a) t path (coded s a)
unfolding hidden-the_row-TPlace-0 hidden-the_row-TExpr-1 hidden-the_row-TTarget-2 hidden-the_row-TReceiver-4 hidden
coded-MemberOf s t a path = refl

pub coded-Cast : (s : Spot) (t : Ty) (a : TExpr) → coded s (expr.Cast t a) ≡ folded s t (constant_in s (expr.Cast t a)) (converted_coded s (type_of a) t (coded s a))
unfolding hidden-the_row-TPlace-0 hidden-the_row-TExpr-1 hidden-the_row-TTarget-2 hidden-the_row-TReceiver-4 hidden
coded-Cast s t a = refl

pub coded-Convert : (s : Spot) (t : Ty) (a : TExpr) → coded s (expr.Convert t a) ≡ folded s t (constant_in s (expr.Convert t a)) (converted_coded s (type_of a) t (coded s a))
unfolding hidden-the_row-TPlace-0 hidden-the_row-TExpr-1 hidden-the_row-TTarget-2 hidden-the_row-TReceiver-4 hidden
coded-Convert s t a = refl

pub coded-Iterator : (s : Spot) (t : Ty) (number : ℕ) → coded s (expr.Iterator t number) ≡ iterator_coded s t number
unfolding hidden-the_row-TPlace-0 hidden-the_row-TExpr-1 hidden-the_row-TTarget-2 hidden-the_row-TReceiver-4 hidden
coded-Iterator s t number = refl

pub coded-Tuple : (s : Spot) (t : Ty) (xs : List TExpr) → coded s (expr.Tuple t xs) ≡ tuple_coded s t (row_of s xs)
unfolding hidden-the_row-TPlace-0 hidden-the_row-TExpr-1 hidden-the_row-TTarget-2 hidden-the_row-TReceiver-4 hidden
coded-Tuple s t xs = ap (tuple_coded s t) (row_is s xs)

pub coded-CallPointer : (s : Spot) (t : Ty) (a : TExpr) (xs : List TExpr) → coded s (expr.CallPointer t a xs) ≡ call_pointer_coded s t (class_number s.program (pointee (type_of a))) (coded s a) (row_of s xs)
unfolding hidden-the_row-TPlace-0 hidden-the_row-TExpr-1 hidden-the_row-TTarget-2 hidden-the_row-TReceiver-4 hidden
coded-CallPointer s t a xs = ap (call_pointer_coded s t (class_number s.program (pointee (type_of a))) (coded s a)) (row_is s xs)

pub coded-Print : (s : Spot) (t : Ty) (format : List PrintPiece) (xs : List TExpr) → coded s (expr.Print t format xs) ≡ print_coded s t format (map type_of xs) (row_of s xs)
unfolding hidden-the_row-TPlace-0 hidden-the_row-TExpr-1 hidden-the_row-TTarget-2 hidden-the_row-TReceiver-4 hidden
coded-Print s t format xs = ap₂ (print_coded s t format) (types_are xs) (row_is s xs)

pub coded-Sequence : (s : Spot) (t : Ty) (xs : List TExpr) (a : TExpr) → coded s (expr.Sequence t xs a) ≡ sequence_coded s t (row_of s xs) (coded s a)
unfolding hidden-the_row-TPlace-0 hidden-the_row-TExpr-1 hidden-the_row-TTarget-2 hidden-the_row-TReceiver-4 hidden
coded-Sequence s t xs a = ap (λ (r : Row). sequence_coded s t r (coded s a)) (row_is s xs)

pub coded-Call : (s : Spot) (t : Ty) (number : ℕ) (r : Option TReceiver) (xs : List TExpr) → coded s (expr.Call t number r xs) ≡ call_coded s t number (object_of s r) (row_of s xs)
unfolding hidden-the_row-TPlace-0 hidden-the_row-TExpr-1 hidden-the_row-TTarget-2 hidden-the_row-TReceiver-4 hidden
coded-Call s t number None xs = ap (call_coded s t number no_object) (row_is s xs)
coded-Call s t number (Some r) xs = ap (call_coded s t number (received_object s r)) (row_is s xs)

pub placed-Local : (s : Spot) (t : Ty) (number : ℕ) → placed s (place.Local t number) ≡ local_placed s number
unfolding hidden-the_row-TPlace-0 hidden-the_row-TExpr-1 hidden-the_row-TTarget-2 hidden-the_row-TReceiver-4 hidden
placed-Local s t number = refl

pub placed-Outer : (s : Spot) (t : Ty) (around : ℕ) (number : ℕ) → placed s (place.Outer t around number) ≡ outer_placed s around number
unfolding hidden-the_row-TPlace-0 hidden-the_row-TExpr-1 hidden-the_row-TTarget-2 hidden-the_row-TReceiver-4 hidden
placed-Outer s t around number = refl

pub placed-Global : (s : Spot) (t : Ty) (number : ℕ) → placed s (place.Global t number) ≡ global_placed s number
unfolding hidden-the_row-TPlace-0 hidden-the_row-TExpr-1 hidden-the_row-TTarget-2 hidden-the_row-TReceiver-4 hidden
placed-Global s t number = refl

pub placed-Pointed : (s : Spot) (t : Ty) (a : TExpr) → placed s (place.Pointed t a) ≡ pointed_placed 0 (coded s a)
unfolding hidden-the_row-TPlace-0 hidden-the_row-TExpr-1 hidden-the_row-TTarget-2 hidden-the_row-TReceiver-4 hidden
placed-Pointed s t a = refl

pub placed-Element : (s : Spot) (t : Ty) (a : TExpr) (b : TExpr) → placed s (place.Element t a b) ≡ element_placed s (size s t) (coded s a) (coded s b)
unfolding hidden-the_row-TPlace-0 hidden-the_row-TExpr-1 hidden-the_row-TTarget-2 hidden-the_row-TReceiver-4 hidden
placed-Element s t a b = refl

pub placed-Member : (s : Spot) (t : Ty) (x : TPlace) (path : List ℕ) → placed s (place.Member t x path) ≡ member_placed (path_offset s.program (place_type x) path) (placed s x)
unfolding hidden-the_row-TPlace-0 hidden-the_row-TExpr-1 hidden-the_row-TTarget-2 hidden-the_row-TReceiver-4 hidden
placed-Member s t x path = refl

pub placed-PointedMember : (s : Spot) (t : Ty) (a : TExpr) (path : List ℕ) → placed s (place.PointedMember t a path) ≡ pointed_placed (path_offset s.program (pointee (type_of a)) path) (coded s a)
unfolding hidden-the_row-TPlace-0 hidden-the_row-TExpr-1 hidden-the_row-TTarget-2 hidden-the_row-TReceiver-4 hidden
placed-PointedMember s t a path = refl

pub aimed-Into : (s : Spot) (x : TPlace) → aimed s (target.Into x) ≡ single_aimed s (place_type x) (placed s x)
unfolding hidden-the_row-TPlace-0 hidden-the_row-TExpr-1 hidden-the_row-TTarget-2 hidden-the_row-TReceiver-4 hidden
aimed-Into s x = refl

pub aimed-Dropped : (s : Spot) (t : Ty) → aimed s (target.Dropped t) ≡ no_aimed
unfolding hidden-the_row-TPlace-0 hidden-the_row-TExpr-1 hidden-the_row-TTarget-2 hidden-the_row-TReceiver-4 hidden
aimed-Dropped s t = refl

pub aimed-Parts : (s : Spot) (t : Ty) (xs : List TTarget) → aimed s (target.Parts t xs) ≡ aimed_of s xs
unfolding hidden-the_row-TPlace-0 hidden-the_row-TExpr-1 hidden-the_row-TTarget-2 hidden-the_row-TReceiver-4 hidden
aimed-Parts s t xs = aimed_is s xs

pub received_object-Place : (s : Spot) (x : TPlace) (path : List ℕ) (how : Passed) → received_object s (receiver.Place x path how) ≡ object_at s how (member_type s.program (place_type x) path) (member_placed (path_offset s.program (place_type x) path) (placed s x))
unfolding hidden-the_row-TPlace-0 hidden-the_row-TExpr-1 hidden-the_row-TTarget-2 hidden-the_row-TReceiver-4 hidden
received_object-Place s x path how = refl

pub received_object-Value : (s : Spot) (a : TExpr) (path : List ℕ) (how : Passed) → received_object s (receiver.Value a path how) ≡ object_in s how (type_of a) (member_type s.program (type_of a) path) path (coded s a)
unfolding hidden-the_row-TPlace-0 hidden-the_row-TExpr-1 hidden-the_row-TTarget-2 hidden-the_row-TReceiver-4 hidden
received_object-Value s a path how = refl

pub received_object-Pointer : (s : Spot) (a : TExpr) (path : List ℕ) (how : Passed) → received_object s (receiver.Pointer a path how) ≡ object_at s how (member_type s.program (pointee (type_of a)) path) (pointed_placed (path_offset s.program (pointee (type_of a)) path) (coded s a))
unfolding hidden-the_row-TPlace-0 hidden-the_row-TExpr-1 hidden-the_row-TTarget-2 hidden-the_row-TReceiver-4 hidden
received_object-Pointer s a path how = refl

pub ruleset expressions_are = (coded-Constant, coded-Text, coded-Nil, coded-Function, coded-Load, coded-Decay, coded-Address, coded-SizeofType, coded-SizeofPlace, coded-SizeofValue, coded-Unary, coded-Not, coded-Binary, coded-Logical, coded-Move, coded-Difference, coded-Assign, coded-Update, coded-Step, coded-Zerox, coded-Terminate, coded-Receive, coded-Send, coded-CanReceive, coded-CanSend, coded-MemberOf, coded-Cast, coded-Convert, coded-Iterator, coded-Tuple, coded-CallPointer, coded-Print, coded-Sequence, coded-Call)

pub ruleset places_are = (placed-Local, placed-Outer, placed-Global, placed-Pointed, placed-Element, placed-Member, placed-PointedMember)

pub ruleset targets_are = (aimed-Into, aimed-Dropped, aimed-Parts)

pub ruleset objects_are = (received_object-Place, received_object-Value, received_object-Pointer)
