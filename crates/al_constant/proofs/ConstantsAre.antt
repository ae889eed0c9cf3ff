-- The constant value of each kind of expression.
use Rattle.std.proofs.Common.{◌≡◌, ℕ, List, Option, Some, None, refl}
use Rattle.std.specs.Prelude.{option_and_then}
use Rattle.al_base.specs.declared.arith.Kind.{Kind}
use Rattle.al_typed.specs.declared.ty.Ty.{Ty}
use Rattle.al_typed.specs.declared.program.Aggregate.{Aggregate}
use Rattle.al_typed.specs.declared.expression.UnaryOp.{UnaryOp}
use Rattle.al_typed.specs.declared.expression.BinaryOp.{BinaryOp}
use Rattle.al_typed.specs.declared.expression.Logic.{Logic}
use Rattle.al_typed.specs.declared.expression.Movement.{Movement}
use Rattle.al_typed.specs.declared.expression.StepOp.{StepOp}
use Rattle.al_typed.specs.declared.expression.Change.{Change}
use Rattle.al_typed.specs.declared.expression.PrintPiece.{PrintPiece}
use Rattle.al_typed.specs.declared.expression.TExpr.{TExpr}
use Rattle.al_typed.specs.declared.expression.TExpr.TheBlock.{hidden-the_row-TPlace-0, hidden-the_row-TExpr-1, hidden-the_row-TTarget-2, hidden-the_row-TReceiver-4}
use Rattle.al_typed.specs.declared.expression.TExpr.TheVariants as expr
use Rattle.al_typed.specs.declared.expression.TPlace.{TPlace}
use Rattle.al_typed.specs.declared.expression.TTarget.{TTarget}
use Rattle.al_typed.specs.declared.expression.TReceiver.{TReceiver}
use denote.Hole.Carrier.{hidden}
use Rattle.al_typed.specs.Typed.{type_of, place_type}
use Rattle.al_convert.specs.Kinds.{kind_of}
use Rattle.al_constant.specs.Constants.{constant, size_constant, operated, operated_at, negated, decided, cast, both}

pub constant-Constant : (rows : List Aggregate) (t : Ty) (bits : ℕ) → constant rows (expr.Constant t bits) ≡ Some bits
unfolding constant hidden-the_row-TPlace-0 hidden-the_row-TExpr-1 hidden-the_row-TTarget-2 hidden-the_row-TReceiver-4 hidden
constant-Constant rows t bits = refl

pub constant-SizeofType : (rows : List Aggregate) (t of : Ty) → constant rows (expr.SizeofType t of) ≡ size_constant rows of
unfolding constant hidden-the_row-TPlace-0 hidden-the_row-TExpr-1 hidden-the_row-TTarget-2 hidden-the_row-TReceiver-4 hidden
constant-SizeofType rows t of = refl

pub constant-SizeofPlace : (rows : List Aggregate) (t : Ty) (x : TPlace) → constant rows (expr.SizeofPlace t x) ≡ size_constant rows (place_type x)
unfolding constant hidden-the_row-TPlace-0 hidden-the_row-TExpr-1 hidden-the_row-TTarget-2 hidden-the_row-TReceiver-4 hidden
constant-SizeofPlace rows t x = refl

pub constant-SizeofValue : (rows : List Aggregate) (t : Ty) (a : TExpr) → constant rows (expr.SizeofValue t a) ≡ size_constant rows (type_of a)
unfolding constant hidden-the_row-TPlace-0 hidden-the_row-TExpr-1 hidden-the_row-TTarget-2 hidden-the_row-TReceiver-4 hidden
constant-SizeofValue rows t a = refl

pub constant-Unary : (rows : List Aggregate) (t : Ty) (op : UnaryOp) (a : TExpr) → constant rows (expr.Unary t op a) ≡ option_and_then (operated_at op (kind_of t)) (constant rows a)
unfolding constant hidden-the_row-TPlace-0 hidden-the_row-TExpr-1 hidden-the_row-TTarget-2 hidden-the_row-TReceiver-4 hidden
constant-Unary rows t op a = refl

pub constant-Not : (rows : List Aggregate) (t : Ty) (a : TExpr) → constant rows (expr.Not t a) ≡ option_and_then negated (constant rows a)
unfolding constant hidden-the_row-TPlace-0 hidden-the_row-TExpr-1 hidden-the_row-TTarget-2 hidden-the_row-TReceiver-4 hidden
constant-Not rows t a = refl

pub constant-Binary : (rows : List Aggregate) (t : Ty) (op : BinaryOp) (k : Kind) (a b : TExpr) → constant rows (expr.Binary t op k a b) ≡ both (operated op k) (constant rows a) (constant rows b)
unfolding constant hidden-the_row-TPlace-0 hidden-the_row-TExpr-1 hidden-the_row-TTarget-2 hidden-the_row-TReceiver-4 hidden
constant-Binary rows t op k a b = refl

pub constant-Logical : (rows : List Aggregate) (t : Ty) (op : Logic) (a b : TExpr) → constant rows (expr.Logical t op a b) ≡ both (decided op) (constant rows a) (constant rows b)
unfolding constant hidden-the_row-TPlace-0 hidden-the_row-TExpr-1 hidden-the_row-TTarget-2 hidden-the_row-TReceiver-4 hidden
constant-Logical rows t op a b = refl

pub constant-Cast : (rows : List Aggregate) (t : Ty) (a : TExpr) → constant rows (expr.Cast t a) ≡ option_and_then (cast (type_of a) t) (constant rows a)
unfolding constant hidden-the_row-TPlace-0 hidden-the_row-TExpr-1 hidden-the_row-TTarget-2 hidden-the_row-TReceiver-4 hidden
constant-Cast rows t a = refl

pub constant-Convert : (rows : List Aggregate) (t : Ty) (a : TExpr) → constant rows (expr.Convert t a) ≡ option_and_then (cast (type_of a) t) (constant rows a)
unfolding constant hidden-the_row-TPlace-0 hidden-the_row-TExpr-1 hidden-the_row-TTarget-2 hidden-the_row-TReceiver-4 hidden
constant-Convert rows t a = refl

pub constant-Text : (rows : List Aggregate) (t : Ty) (number : ℕ) → constant rows (expr.Text t number) ≡ None
unfolding constant hidden-the_row-TPlace-0 hidden-the_row-TExpr-1 hidden-the_row-TTarget-2 hidden-the_row-TReceiver-4 hidden
constant-Text rows t number = refl

pub constant-Nil : (rows : List Aggregate) (t : Ty) → constant rows (expr.Nil t) ≡ None
unfolding constant hidden-the_row-TPlace-0 hidden-the_row-TExpr-1 hidden-the_row-TTarget-2 hidden-the_row-TReceiver-4 hidden
constant-Nil rows t = refl

pub constant-Function : (rows : List Aggregate) (t : Ty) (number : ℕ) → constant rows (expr.Function t number) ≡ None
unfolding constant hidden-the_row-TPlace-0 hidden-the_row-TExpr-1 hidden-the_row-TTarget-2 hidden-the_row-TReceiver-4 hidden
constant-Function rows t number = refl

pub constant-Load : (rows : List Aggregate) (t : Ty) (x : TPlace) → constant rows (expr.Load t x) ≡ None
unfolding constant hidden-the_row-TPlace-0 hidden-the_row-TExpr-1 hidden-the_row-TTarget-2 hidden-the_row-TReceiver-4 hidden
constant-Load rows t x = refl

pub constant-Decay : (rows : List Aggregate) (t : Ty) (x : TPlace) → constant rows (expr.Decay t x) ≡ None
unfolding constant hidden-the_row-TPlace-0 hidden-the_row-TExpr-1 hidden-the_row-TTarget-2 hidden-the_row-TReceiver-4 hidden
constant-Decay rows t x = refl

pub constant-Address : (rows : List Aggregate) (t : Ty) (x : TPlace) → constant rows (expr.Address t x) ≡ None
unfolding constant hidden-the_row-TPlace-0 hidden-the_row-TExpr-1 hidden-the_row-TTarget-2 hidden-the_row-TReceiver-4 hidden
constant-Address rows t x = refl

pub constant-Move : (rows : List Aggregate) (t : Ty) (how : Movement) (a b : TExpr) → constant rows (expr.Move t how a b) ≡ None
unfolding constant hidden-the_row-TPlace-0 hidden-the_row-TExpr-1 hidden-the_row-TTarget-2 hidden-the_row-TReceiver-4 hidden
constant-Move rows t how a b = refl

pub constant-Difference : (rows : List Aggregate) (t : Ty) (a b : TExpr) → constant rows (expr.Difference t a b) ≡ None
unfolding constant hidden-the_row-TPlace-0 hidden-the_row-TExpr-1 hidden-the_row-TTarget-2 hidden-the_row-TReceiver-4 hidden
constant-Difference rows t a b = refl

pub constant-Assign : (rows : List Aggregate) (t : Ty) (x : TTarget) (a : TExpr) → constant rows (expr.Assign t x a) ≡ None
unfolding constant hidden-the_row-TPlace-0 hidden-the_row-TExpr-1 hidden-the_row-TTarget-2 hidden-the_row-TReceiver-4 hidden
constant-Assign rows t x a = refl

pub constant-Update : (rows : List Aggregate) (t : Ty) (x : TPlace) (how : Change) (a : TExpr) → constant rows (expr.Update t x how a) ≡ None
unfolding constant hidden-the_row-TPlace-0 hidden-the_row-TExpr-1 hidden-the_row-TTarget-2 hidden-the_row-TReceiver-4 hidden
constant-Update rows t x how a = refl

pub constant-Step : (rows : List Aggregate) (t : Ty) (op : StepOp) (x : TPlace) → constant rows (expr.Step t op x) ≡ None
unfolding constant hidden-the_row-TPlace-0 hidden-the_row-TExpr-1 hidden-the_row-TTarget-2 hidden-the_row-TReceiver-4 hidden
constant-Step rows t op x = refl

pub constant-Zerox : (rows : List Aggregate) (t : Ty) (x : TPlace) → constant rows (expr.Zerox t x) ≡ None
unfolding constant hidden-the_row-TPlace-0 hidden-the_row-TExpr-1 hidden-the_row-TTarget-2 hidden-the_row-TReceiver-4 hidden
constant-Zerox rows t x = refl

pub constant-Tuple : (rows : List Aggregate) (t : Ty) (xs : List TExpr) → constant rows (expr.Tuple t xs) ≡ None
unfolding constant hidden-the_row-TPlace-0 hidden-the_row-TExpr-1 hidden-the_row-TTarget-2 hidden-the_row-TReceiver-4 hidden
constant-Tuple rows t xs = refl

pub constant-Call : (rows : List Aggregate) (t : Ty) (number : ℕ) (r : Option TReceiver) (xs : List TExpr) → constant rows (expr.Call t number r xs) ≡ None
unfolding constant hidden-the_row-TPlace-0 hidden-the_row-TExpr-1 hidden-the_row-TTarget-2 hidden-the_row-TReceiver-4 hidden
constant-Call rows t number r xs = refl

pub constant-CallPointer : (rows : List Aggregate) (t : Ty) (a : TExpr) (xs : List TExpr) → constant rows (expr.CallPointer t a xs) ≡ None
unfolding constant hidden-the_row-TPlace-0 hidden-the_row-TExpr-1 hidden-the_row-TTarget-2 hidden-the_row-TReceiver-4 hidden
constant-CallPointer rows t a xs = refl

pub constant-Print : (rows : List Aggregate) (t : Ty) (format : List PrintPiece) (xs : List TExpr) → constant rows (expr.Print t format xs) ≡ None
unfolding constant hidden-the_row-TPlace-0 hidden-the_row-TExpr-1 hidden-the_row-TTarget-2 hidden-the_row-TReceiver-4 hidden
constant-Print rows t format xs = refl

pub constant-Terminate : (rows : List Aggregate) (t : Ty) (a : TExpr) → constant rows (expr.Terminate t a) ≡ None
unfolding constant hidden-the_row-TPlace-0 hidden-the_row-TExpr-1 hidden-the_row-TTarget-2 hidden-the_row-TReceiver-4 hidden
constant-Terminate rows t a = refl

pub constant-Receive : (rows : List Aggregate) (t : Ty) (a : TExpr) → constant rows (expr.Receive t a) ≡ None
unfolding constant hidden-the_row-TPlace-0 hidden-the_row-TExpr-1 hidden-the_row-TTarget-2 hidden-the_row-TReceiver-4 hidden
constant-Receive rows t a = refl

pub constant-Send : (rows : List Aggregate) (t : Ty) (a b : TExpr) → constant rows (expr.Send t a b) ≡ None
unfolding constant hidden-the_row-TPlace-0 hidden-the_row-TExpr-1 hidden-the_row-TTarget-2 hidden-the_row-TReceiver-4 hidden
constant-Send rows t a b = refl

pub constant-CanReceive : (rows : List Aggregate) (t : Ty) (a : TExpr) → constant rows (expr.CanReceive t a) ≡ None
unfolding constant hidden-the_row-TPlace-0 hidden-the_row-TExpr-1 hidden-the_row-TTarget-2 hidden-the_row-TReceiver-4 hidden
constant-CanReceive rows t a = refl

pub constant-CanSend : (rows : List Aggregate) (t : Ty) (a : TExpr) → constant rows (expr.CanSend t a) ≡ None
unfolding constant hidden-the_row-TPlace-0 hidden-the_row-TExpr-1 hidden-the_row-TTarget-2 hidden-the_row-TReceiver-4 hidden
constant-CanSend rows t a = refl

pub constant-MemberOf : (rows : List Aggregate) (t : Ty) (a : TExpr) (path : List ℕ) → constant rows (expr.MemberOf t a path) ≡ None
unfolding constant hidden-the_row-TPlace-0 hidden-the_row-TExpr-1 hidden-the_row-TTarget-2 hidden-the_row-TReceiver-4 hidden
constant-MemberOf rows t a path = refl

pub constant-Sequence : (rows : List Aggregate) (t : Ty) (xs : List TExpr) (a : TExpr) → constant rows (expr.Sequence t xs a) ≡ None
unfolding constant hidden-the_row-TPlace-0 hidden-the_row-TExpr-1 hidden-the_row-TTarget-2 hidden-the_row-TReceiver-4 hidden
constant-Sequence rows t xs a = refl

pub constant-Iterator : (rows : List Aggregate) (t : Ty) (number : ℕ) → constant rows (expr.Iterator t number) ≡ None
unfolding constant hidden-the_row-TPlace-0 hidden-the_row-TExpr-1 hidden-the_row-TTarget-2 hidden-the_row-TReceiver-4 hidden
constant-Iterator rows t number = refl

pub ruleset constant_is = (constant-Constant, constant-SizeofType, constant-SizeofPlace, constant-SizeofValue, constant-Unary, constant-Not, constant-Binary, constant-Logical, constant-Cast, constant-Convert, constant-Text, constant-Nil, constant-Function, constant-Load, constant-Decay, constant-Address, constant-Move, constant-Difference, constant-Assign, constant-Update, constant-Step, constant-Zerox, constant-Tuple, constant-Call, constant-CallPointer, constant-Print, constant-Terminate, constant-Receive, constant-Send, constant-CanReceive, constant-CanSend, constant-MemberOf, constant-Sequence, constant-Iterator)
