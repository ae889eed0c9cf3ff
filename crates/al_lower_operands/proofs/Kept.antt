-- Which forms of expressions keep variables as they are.
use Rattle.std.proofs.Common.{◌≡◌, ℕ, ◌*◌, ◌%◌, ◌^◌, Bool, true, false, ◌&&◌, List, Option, Some, None, Result, IfOk, sym, ap, ◌∙◌, subst}
use Rattle.al_base.specs.declared.arith.Kind.{Kind}
use Rattle.al_typed.specs.declared.ty.Ty.{Ty}
use Rattle.al_typed.specs.declared.expression.UnaryOp.{UnaryOp}
use Rattle.al_typed.specs.declared.expression.BinaryOp.{BinaryOp}
use Rattle.al_typed.specs.declared.expression.Logic.{Logic}
use Rattle.al_typed.specs.declared.expression.Movement.{Movement}
use Rattle.al_typed.specs.declared.expression.StepOp.{StepOp}
use Rattle.al_typed.specs.declared.expression.Change.{Change}
use Rattle.al_typed.specs.declared.expression.PrintPiece.{PrintPiece}
use Rattle.al_typed.specs.declared.expression.TExpr.{TExpr}
use Rattle.al_typed.specs.declared.expression.TExpr.TheVariants as expr
use Rattle.al_typed.specs.declared.expression.TPlace.{TPlace}
use Rattle.al_typed.specs.declared.expression.TTarget.{TTarget}
use Rattle.al_typed.specs.declared.expression.TReceiver.{TReceiver}
use Rattle.al_typed.specs.Typed.{type_of}
use Rattle.al_lower_code.specs.Homes.{Spot, words}
use Rattle.al_lower_code.specs.Coded.{Coded, Placed}
use Rattle.al_lower_code.specs.Values.{pointed_placed, element_by, element_placed}
use Rattle.al_lower_code.specs.Expressions.{coded, placed, aimed, received_object}
use Rattle.al_lower_operands.specs.Folded.{folded_bits}
use Rattle.al_lower_operands.specs.Rows.{row_of, object_of}
use Rattle.al_lower_operands.proofs.Forms.{coded-Constant, coded-Text, coded-Nil, coded-Function, coded-Load, coded-Decay, coded-Address, coded-SizeofType, coded-SizeofPlace, coded-SizeofValue, coded-Move, coded-Difference, coded-Assign, coded-Update, coded-Step, coded-Zerox, coded-Terminate, coded-Receive, coded-Send, coded-CanReceive, coded-CanSend, coded-MemberOf, coded-Iterator, coded-Tuple, coded-CallPointer, coded-Print, coded-Sequence, coded-Call}
use Rattle.al_lower_operands.proofs.Folding.{constant_is, open-Unary, open-Not, open-Binary, open-Logical, open-Cast, open-Convert}
use Rattle.al_lower_operands.proofs.Plain.{binary_keeps, logical_keeps, movement_keeps, assign_keeps, stepped_keeps, zerox_keeps}
use Rattle.al_lower_operands.proofs.Unchanged.{unary_keeps, converted_keeps}

pub keeps-constant : (s : Spot) (e : TExpr) (bits : ℕ) → folded_bits s e ≡ Some bits → (coded s e).keeps ≡ true
keeps-constant s e bits h = ap (λ (c : Coded). c.keeps) (constant_is s e bits h)

pub keeps-Constant : (s : Spot) (t : Ty) (bits : ℕ) → (coded s (expr.Constant t bits)).keeps ≡ true
keeps-Constant s t bits = ap (λ (c : Coded). c.keeps) (coded-Constant s t bits)

pub keeps-Text : (s : Spot) (t : Ty) (number : ℕ) → (coded s (expr.Text t number)).keeps ≡ true
keeps-Text s t number = ap (λ (c : Coded). c.keeps) (coded-Text s t number)

pub keeps-Nil : (s : Spot) (t : Ty) → (coded s (expr.Nil t)).keeps ≡ true
keeps-Nil s t = ap (λ (c : Coded). c.keeps) (coded-Nil s t)

pub keeps-Function : (s : Spot) (t : Ty) (number : ℕ) → (coded s (expr.Function t number)).keeps ≡ true
keeps-Function s t number = ap (λ (c : Coded). c.keeps) (coded-Function s t number)

pub keeps-Load : (s : Spot) (t : Ty) (x : TPlace) → (coded s (expr.Load t x)).keeps ≡ (placed s x).keeps
keeps-Load s t x = ap (λ (c : Coded). c.keeps) (coded-Load s t x)

pub keeps-Decay : (s : Spot) (t : Ty) (x : TPlace) → (coded s (expr.Decay t x)).keeps ≡ (placed s x).keeps
keeps-Decay s t x = ap (λ (c : Coded). c.keeps) (coded-Decay s t x)

pub keeps-Address : (s : Spot) (t : Ty) (x : TPlace) → (coded s (expr.Address t x)).keeps ≡ (placed s x).keeps
keeps-Address s t x = ap (λ (c : Coded). c.keeps) (coded-Address s t x)

pub keeps-SizeofType : (s : Spot) (t : Ty) (of : Ty) → (coded s (expr.SizeofType t of)).keeps ≡ true
keeps-SizeofType s t of = ap (λ (c : Coded). c.keeps) (coded-SizeofType s t of)

pub keeps-SizeofPlace : (s : Spot) (t : Ty) (x : TPlace) → (coded s (expr.SizeofPlace t x)).keeps ≡ true
keeps-SizeofPlace s t x = ap (λ (c : Coded). c.keeps) (coded-SizeofPlace s t x)

pub keeps-SizeofValue : (s : Spot) (t : Ty) (a : TExpr) → (coded s (expr.SizeofValue t a)).keeps ≡ true
keeps-SizeofValue s t a = ap (λ (c : Coded). c.keeps) (coded-SizeofValue s t a)

pub keeps-Unary : (s : Spot) (t : Ty) (op : UnaryOp) (a : TExpr) → folded_bits s (expr.Unary t op a) ≡ None → (coded s (expr.Unary t op a)).keeps ≡ (coded s a).keeps
keeps-Unary s t op a h = ap (λ (c : Coded). c.keeps) (open-Unary s t op a h) ∙ unary_keeps s t op (coded s a)

pub keeps-Not : (s : Spot) (t : Ty) (a : TExpr) → folded_bits s (expr.Not t a) ≡ None → (coded s (expr.Not t a)).keeps ≡ (coded s a).keeps
keeps-Not s t a h = ap (λ (c : Coded). c.keeps) (open-Not s t a h)

pub keeps-Binary : (s : Spot) (t : Ty) (op : BinaryOp) (k : Kind) (a : TExpr) (b : TExpr) → folded_bits s (expr.Binary t op k a b) ≡ None → (coded s (expr.Binary t op k a b)).keeps ≡ ((coded s a).keeps && (coded s b).keeps)
keeps-Binary s t op k a b h = ap (λ (c : Coded). c.keeps) (open-Binary s t op k a b h) ∙ binary_keeps s t op k (words s (type_of a)) (coded s a) (coded s b)

pub keeps-Logical : (s : Spot) (t : Ty) (op : Logic) (a : TExpr) (b : TExpr) → folded_bits s (expr.Logical t op a b) ≡ None → (coded s (expr.Logical t op a b)).keeps ≡ ((coded s a).keeps && (coded s b).keeps)
keeps-Logical s t op a b h = ap (λ (c : Coded). c.keeps) (open-Logical s t op a b h) ∙ logical_keeps s t op (words s (type_of b)) (coded s a) (coded s b)

pub keeps-Move : (s : Spot) (t : Ty) (how : Movement) (a : TExpr) (b : TExpr) → (coded s (expr.Move t how a b)).keeps ≡ ((coded s a).keeps && (coded s b).keeps)
keeps-Move s t how a b = ap (λ (c : Coded). c.keeps) (coded-Move s t how a b) ∙ movement_keeps s t how (coded s a) (coded s b)

pub keeps-Difference : (s : Spot) (t : Ty) (a : TExpr) (b : TExpr) → (coded s (expr.Difference t a b)).keeps ≡ ((coded s a).keeps && (coded s b).keeps)
keeps-Difference s t a b = ap (λ (c : Coded). c.keeps) (coded-Difference s t a b)

pub keeps-Assign : (s : Spot) (t : Ty) (x : TTarget) (a : TExpr) → (coded s (expr.Assign t x a)).keeps ≡ false
keeps-Assign s t x a = ap (λ (c : Coded). c.keeps) (coded-Assign s t x a) ∙ assign_keeps s t (aimed s x) (coded s a)

pub keeps-Update : (s : Spot) (t : Ty) (x : TPlace) (how : Change) (a : TExpr) → (coded s (expr.Update t x how a)).keeps ≡ false
keeps-Update s t x how a = ap (λ (c : Coded). c.keeps) (coded-Update s t x how a)

pub keeps-Step : (s : Spot) (t : Ty) (op : StepOp) (x : TPlace) → (coded s (expr.Step t op x)).keeps ≡ false
keeps-Step s t op x = ap (λ (c : Coded). c.keeps) (coded-Step s t op x) ∙ stepped_keeps s t op (placed s x)

pub keeps-Zerox : (s : Spot) (t : Ty) (x : TPlace) → (coded s (expr.Zerox t x)).keeps ≡ false
keeps-Zerox s t x = ap (λ (c : Coded). c.keeps) (coded-Zerox s t x) ∙ zerox_keeps s t (placed s x)

pub keeps-Terminate : (s : Spot) (t : Ty) (a : TExpr) → (coded s (expr.Terminate t a)).keeps ≡ (coded s a).keeps
keeps-Terminate s t a = ap (λ (c : Coded). c.keeps) (coded-Terminate s t a)

pub keeps-Receive : (s : Spot) (t : Ty) (a : TExpr) → (coded s (expr.Receive t a)).keeps ≡ (coded s a).keeps
keeps-Receive s t a = ap (λ (c : Coded). c.keeps) (coded-Receive s t a)

pub keeps-Send : (s : Spot) (t : Ty) (a : TExpr) (b : TExpr) → (coded s (expr.Send t a b)).keeps ≡ ((coded s a).keeps && (coded s b).keeps)
keeps-Send s t a b = ap (λ (c : Coded). c.keeps) (coded-Send s t a b)

pub keeps-CanReceive : (s : Spot) (t : Ty) (a : TExpr) → (coded s (expr.CanReceive t a)).keeps ≡ (coded s a).keeps
keeps-CanReceive s t a = ap (λ (c : Coded). c.keeps) (coded-CanReceive s t a)

pub keeps-CanSend : (s : Spot) (t : Ty) (a : TExpr) → (coded s (expr.CanSend t a)).keeps ≡ (coded s a).keeps
keeps-CanSend s t a = ap (λ (c : Coded). c.keeps) (coded-CanSend s t a)

pub keeps-MemberOf : (s : Spot) (t : Ty) (a : TExpr) (path : List ℕ) → (coded s (expr.MemberOf t a path)).keeps ≡ (coded s a).keeps
keeps-MemberOf s t a path = ap (λ (c : Coded). c.keeps) (coded-MemberOf s t a path)

pub keeps-Cast : (s : Spot) (t : Ty) (a : TExpr) → folded_bits s (expr.Cast t a) ≡ None → (coded s (expr.Cast t a)).keeps ≡ (coded s a).keeps
keeps-Cast s t a h = ap (λ (c : Coded). c.keeps) (open-Cast s t a h) ∙ converted_keeps s (type_of a) t (coded s a)

pub keeps-Convert : (s : Spot) (t : Ty) (a : TExpr) → folded_bits s (expr.Convert t a) ≡ None → (coded s (expr.Convert t a)).keeps ≡ (coded s a).keeps
keeps-Convert s t a h = ap (λ (c : Coded). c.keeps) (open-Convert s t a h) ∙ converted_keeps s (type_of a) t (coded s a)

pub keeps-Iterator : (s : Spot) (t : Ty) (number : ℕ) → (coded s (expr.Iterator t number)).keeps ≡ true
keeps-Iterator s t number = ap (λ (c : Coded). c.keeps) (coded-Iterator s t number)

pub keeps-Tuple : (s : Spot) (t : Ty) (xs : List TExpr) → (coded s (expr.Tuple t xs)).keeps ≡ (row_of s xs).keeps
keeps-Tuple s t xs = ap (λ (c : Coded). c.keeps) (coded-Tuple s t xs)

pub keeps-CallPointer : (s : Spot) (t : Ty) (a : TExpr) (xs : List TExpr) → (coded s (expr.CallPointer t a xs)).keeps ≡ ((coded s a).keeps && (row_of s xs).keeps)
keeps-CallPointer s t a xs = ap (λ (c : Coded). c.keeps) (coded-CallPointer s t a xs)

pub keeps-Print : (s : Spot) (t : Ty) (format : List PrintPiece) (xs : List TExpr) → (coded s (expr.Print t format xs)).keeps ≡ (row_of s xs).keeps
keeps-Print s t format xs = ap (λ (c : Coded). c.keeps) (coded-Print s t format xs)

pub keeps-Sequence : (s : Spot) (t : Ty) (xs : List TExpr) (a : TExpr) → (coded s (expr.Sequence t xs a)).keeps ≡ ((row_of s xs).keeps && (coded s a).keeps)
keeps-Sequence s t xs a = ap (λ (c : Coded). c.keeps) (coded-Sequence s t xs a)

pub keeps-Call : (s : Spot) (t : Ty) (number : ℕ) (r : Option TReceiver) (xs : List TExpr) → (coded s (expr.Call t number r xs)).keeps ≡ ((object_of s r).keeps && (row_of s xs).keeps)
keeps-Call s t number r xs = ap (λ (c : Coded). c.keeps) (coded-Call s t number r xs)

pub ruleset simple_keeps = (keeps-constant, keeps-Constant, keeps-Text, keeps-Nil, keeps-Function, keeps-SizeofType, keeps-SizeofPlace, keeps-SizeofValue, keeps-Iterator, keeps-Assign, keeps-Update, keeps-Step, keeps-Zerox)

-- ---- what was found of the parts of an expression, a place or an object is what holds of it

pub kept : {E : Type 0} (r : Result Bool E) (s : Spot) (e v : TExpr) (b : Bool) → e ≡ v → (coded s v).keeps ≡ b → IfOk r (λ k. k ≡ b) → IfOk r (λ k. k ≡ (coded s e).keeps)
kept r s e v b is eq found = subst (λ (b : Bool). IfOk r (λ k. k ≡ b)) (sym (ap (λ (x : TExpr). (coded s x).keeps) is ∙ eq)) found

pub place_kept : {E : Type 0} (r : Result Bool E) (s : Spot) (p v : TPlace) (pl : Placed) → p ≡ v → placed s v ≡ pl → IfOk r (λ k. k ≡ pl.keeps) → IfOk r (λ k. k ≡ (placed s p).keeps)
place_kept r s p v pl is form found = subst (λ (x : Placed). IfOk r (λ k. k ≡ x.keeps)) (sym (ap (placed s) is ∙ form)) found

pub object_kept : {E : Type 0} (r : Result Bool E) (s : Spot) (o v : TReceiver) (b : Bool) → o ≡ v → (received_object s v).keeps ≡ b → IfOk r (λ k. k ≡ b)
    → IfOk r (λ k. k ≡ (received_object s o).keeps)
object_kept r s o v b is eq found = subst (λ (b : Bool). IfOk r (λ k. k ≡ b)) (sym (ap (λ (x : TReceiver). (received_object s x).keeps) is ∙ eq)) found

-- a call whose object keeps variables, and one whose object does not
pub call_kept : (s : Spot) (t : Ty) (number : ℕ) (r : Option TReceiver) (xs : List TExpr) (b : Bool) → (object_of s r).keeps ≡ b
    → (coded s (expr.Call t number r xs)).keeps ≡ (b && (row_of s xs).keeps)
call_kept s t number r xs b is = keeps-Call s t number r xs ∙ ap (λ (b : Bool). b && (row_of s xs).keeps) is

-- ---- elements

abbrev chosen : Spot → ℕ → Coded → Coded → Option ℕ → Placed
chosen s size base index o = elim o as (λ (_ : Option ℕ). Placed) [ Some n ↦ pointed_placed (n * size % 2 ^ 32) base | None ↦ element_by s size base index ]

pub element_known : (s : Spot) (size : ℕ) (base index : Coded) (n : ℕ) → index.known ≡ Some n → element_placed s size base index ≡ pointed_placed (n * size % 2 ^ 32) base
element_known s size base index n h = ap (chosen s size base index) h

pub element_open : (s : Spot) (size : ℕ) (base index : Coded) → index.known ≡ None → element_placed s size base index ≡ element_by s size base index
element_open s size base index h = ap (chosen s size base index) h
