-- What holds of each form of expression holds of every expression.
use Rattle.std.proofs.Common.{ℕ, List, Option, sym, subst}
use Rattle.al_base.specs.declared.arith.Kind.{Kind}
use Rattle.al_typed.specs.declared.ty.Ty.{Ty}
use Rattle.al_typed.specs.declared.expression.UnaryOp.{UnaryOp}
use Rattle.al_typed.specs.declared.expression.BinaryOp.{BinaryOp}
use Rattle.al_typed.specs.declared.expression.Logic.{Logic}
use Rattle.al_typed.specs.declared.expression.Movement.{Movement}
use Rattle.al_typed.specs.declared.expression.StepOp.{StepOp}
use Rattle.al_typed.specs.declared.expression.Change.{Change}
use Rattle.al_typed.specs.declared.expression.PrintPiece.{PrintPiece}
use Rattle.al_typed.specs.declared.expression.TExpr.{TExpr}
use Rattle.al_typed.specs.declared.expression.TExpr.TheVariants as expr
use Rattle.al_typed.specs.declared.expression.TPlace.{TPlace}
use Rattle.al_typed.specs.declared.expression.TTarget.{TTarget}
use Rattle.al_typed.specs.declared.expression.TReceiver.{TReceiver}
use Rattle.al_typed.specs.declared.expression.TExpr.{roll-TExpr}
use Rattle.al_typed.specs.declared.expression.TExpr.TheOpen.{TExpr-F}
use Rattle.al_typed.specs.declared.expression.TExpr.TheViews.{out-TExpr, roll-out-TExpr}

pub record OfForms (P : TExpr → Type 0) : Type 0 where
  pub constant : (t : Ty) (bits : ℕ) → P (expr.Constant t bits)
  pub text : (t : Ty) (number : ℕ) → P (expr.Text t number)
  pub nil_of : (t : Ty) → P (expr.Nil t)
  pub function : (t : Ty) (number : ℕ) → P (expr.Function t number)
  pub load : (t : Ty) (x : TPlace) → P (expr.Load t x)
  pub decay : (t : Ty) (x : TPlace) → P (expr.Decay t x)
  pub address : (t : Ty) (x : TPlace) → P (expr.Address t x)
  pub sizeof_type : (t : Ty) (of : Ty) → P (expr.SizeofType t of)
  pub sizeof_place : (t : Ty) (x : TPlace) → P (expr.SizeofPlace t x)
  pub sizeof_value : (t : Ty) (a : TExpr) → P (expr.SizeofValue t a)
  pub unary : (t : Ty) (op : UnaryOp) (a : TExpr) → P (expr.Unary t op a)
  pub negated : (t : Ty) (a : TExpr) → P (expr.Not t a)
  pub binary : (t : Ty) (op : BinaryOp) (k : Kind) (a : TExpr) (b : TExpr) → P (expr.Binary t op k a b)
  pub logical : (t : Ty) (op : Logic) (a : TExpr) (b : TExpr) → P (expr.Logical t op a b)
  pub moved : (t : Ty) (how : Movement) (a : TExpr) (b : TExpr) → P (expr.Move t how a b)
  pub difference : (t : Ty) (a : TExpr) (b : TExpr) → P (expr.Difference t a b)
  pub assign : (t : Ty) (x : TTarget) (a : TExpr) → P (expr.Assign t x a)
  pub update : (t : Ty) (x : TPlace) (how : Change) (a : TExpr) → P (expr.Update t x how a)
  pub step : (t : Ty) (op : StepOp) (x : TPlace) → P (expr.Step t op x)
  pub zerox : (t : Ty) (x : TPlace) → P (expr.Zerox t x)
  pub tuple : (t : Ty) (xs : List TExpr) → P (expr.Tuple t xs)
  pub call : (t : Ty) (number : ℕ) (r : Option TReceiver) (xs : List TExpr) → P (expr.Call t number r xs)
  pub call_pointer : (t : Ty) (a : TExpr) (xs : List TExpr) → P (expr.CallPointer t a xs)
  pub print : (t : Ty) (format : List PrintPiece) (xs : List TExpr) → P (expr.Print t format xs)
  pub terminate : (t : Ty) (a : TExpr) → P (expr.Terminate t a)
  pub receive : (t : Ty) (a : TExpr) → P (expr.Receive t a)
  pub send : (t : Ty) (a : TExpr) (b : TExpr) → P (expr.Send t a b)
  pub can_receive : (t : Ty) (a : TExpr) → P (expr.CanReceive t a)
  pub can_send : (t : Ty) (a : TExpr) → P (expr.CanSend t a)
  pub member_of : (t : Ty) (a : TExpr) (path : List ℕ) → P (expr.MemberOf t a path)
  pub cast : (t : Ty) (a : TExpr) → P (expr.Cast t a)
  pub convert : (t : Ty) (a : TExpr) → P (expr.Convert t a)
  pub sequence : (t : Ty) (xs : List TExpr) (a : TExpr) → P (expr.Sequence t xs a)
  pub iterator : (t : Ty) (number : ℕ) → P (expr.Iterator t number)

of_rolled : (P : TExpr → Type 0) → OfForms P → (f : TExpr-F TExpr TPlace TReceiver TTarget) → P (roll-TExpr f)
of_rolled P of (TExpr-F.Constant t bits) = subst P (sym (expr.rolls-Constant t bits)) (of.constant t bits)
of_rolled P of (TExpr-F.Text t number) = subst P (sym (expr.rolls-Text t number)) (of.text t number)
of_rolled P of (TExpr-F.Nil t) = subst P (sym (expr.rolls-Nil t)) (of.nil_of t)
of_rolled P of (TExpr-F.Function t number) = subst P (sym (expr.rolls-Function t number)) (of.function t number)
of_rolled P of (TExpr-F.Load t x) = subst P (sym (expr.rolls-Load t x)) (of.load t x)
of_rolled P of (TExpr-F.Decay t x) = subst P (sym (expr.rolls-Decay t x)) (of.decay t x)
of_rolled P of (TExpr-F.Address t x) = subst P (sym (expr.rolls-Address t x)) (of.address t x)
of_rolled P of (TExpr-F.SizeofType t u) = subst P (sym (expr.rolls-SizeofType t u)) (of.sizeof_type t u)
of_rolled P of (TExpr-F.SizeofPlace t x) = subst P (sym (expr.rolls-SizeofPlace t x)) (of.sizeof_place t x)
of_rolled P of (TExpr-F.SizeofValue t a) = subst P (sym (expr.rolls-SizeofValue t a)) (of.sizeof_value t a)
of_rolled P of (TExpr-F.Unary t op a) = subst P (sym (expr.rolls-Unary t op a)) (of.unary t op a)
of_rolled P of (TExpr-F.Not t a) = subst P (sym (expr.rolls-Not t a)) (of.negated t a)
of_rolled P of (TExpr-F.Binary t op k a b) = subst P (sym (expr.rolls-Binary t op k a b)) (of.binary t op k a b)
of_rolled P of (TExpr-F.Logical t op a b) = subst P (sym (expr.rolls-Logical t op a b)) (of.logical t op a b)
of_rolled P of (TExpr-F.Move t how a b) = subst P (sym (expr.rolls-Move t how a b)) (of.moved t how a b)
of_rolled P of (TExpr-F.Difference t a b) = subst P (sym (expr.rolls-Difference t a b)) (of.difference t a b)
of_rolled P of (TExpr-F.Assign t x a) = subst P (sym (expr.rolls-Assign t x a)) (of.assign t x a)
of_rolled P of (TExpr-F.Update t x how a) = subst P (sym (expr.rolls-Update t x how a)) (of.update t x how a)
of_rolled P of (TExpr-F.Step t op x) = subst P (sym (expr.rolls-Step t op x)) (of.step t op x)
of_rolled P of (TExpr-F.Zerox t x) = subst P (sym (expr.rolls-Zerox t x)) (of.zerox t x)
of_rolled P of (TExpr-F.Tuple t xs) = subst P (sym (expr.rolls-Tuple t xs)) (of.tuple t xs)
of_rolled P of (TExpr-F.Call t number r xs) = subst P (sym (expr.rolls-Call t number r xs)) (of.call t number r xs)
of_rolled P of (TExpr-F.CallPointer t a xs) = subst P (sym (expr.rolls-CallPointer t a xs)) (of.call_pointer t a xs)
of_rolled P of (TExpr-F.Print t format xs) = subst P (sym (expr.rolls-Print t format xs)) (of.print t format xs)
of_rolled P of (TExpr-F.Terminate t a) = subst P (sym (expr.rolls-Terminate t a)) (of.terminate t a)
of_rolled P of (TExpr-F.Receive t a) = subst P (sym (expr.rolls-Receive t a)) (of.receive t a)
of_rolled P of (TExpr-F.Send t a b) = subst P (sym (expr.rolls-Send t a b)) (of.send t a b)
of_rolled P of (TExpr-F.CanReceive t a) = subst P (sym (expr.rolls-CanReceive t a)) (of.can_receive t a)
of_rolled P of (TExpr-F.CanSend t a) = subst P (sym (expr.rolls-CanSend t a)) (of.can_send t a)
of_rolled P of (TExpr-F.MemberOf t a path) = subst P (sym (expr.rolls-MemberOf t a path)) (of.member_of t a path)
of_rolled P of (TExpr-F.Cast t a) = subst P (sym (expr.rolls-Cast t a)) (of.cast t a)
of_rolled P of (TExpr-F.Convert t a) = subst P (sym (expr.rolls-Convert t a)) (of.convert t a)
of_rolled P of (TExpr-F.Sequence t xs a) = subst P (sym (expr.rolls-Sequence t xs a)) (of.sequence t xs a)
of_rolled P of (TExpr-F.Iterator t number) = subst P (sym (expr.rolls-Iterator t number)) (of.iterator t number)

pub every_form : (P : TExpr → Type 0) → OfForms P → (e : TExpr) → P e
every_form P of e = subst P (roll-out-TExpr e) (of_rolled P of (out-TExpr e))
