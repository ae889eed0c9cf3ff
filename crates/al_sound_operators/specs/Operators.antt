-- What operators, casts, channel operations, print and sizeof give is well typed, where their operands are.
use Rattle.std.specs.Prelude.{◌≡◌, true, All, List, Option}
use Rattle.al_base.specs.declared.place.Place.{Place}
use Rattle.al_tree.specs.declared.expression.BinaryOp.{BinaryOp as Written}
use Rattle.al_typed.specs.declared.ty.Ty.{Ty}
use Rattle.al_typed.specs.declared.expression.UnaryOp.{UnaryOp}
use Rattle.al_typed.specs.declared.expression.BinaryOp.{BinaryOp}
use Rattle.al_typed.specs.declared.expression.Logic.{Logic}
use Rattle.al_typed.specs.declared.expression.PrintPiece.{PrintPiece}
use Rattle.al_typed.specs.declared.expression.TExpr.{TExpr}
use Rattle.al_typed.specs.Types.{is_scalar}
use Rattle.al_typed.specs.Typed.{type_of}
use Rattle.al_typed.specs.WellTyped.{IsPromoted, Scope, is_sound, rows}
use Rattle.al_convert.specs.Kinds.{is_integer}
use Rattle.al_operands.specs.declared.operand.Operand.{Operand}
use Rattle.al_operators.specs.Operators.{addition, added, binary, bitwise, can_receive, can_send, cast, combined, complement, condition, decision, equality, multiplication, multiplied, negation, order, printable, printed, received, sent, shift, shifted_by, signed, size_of_type, size_of_value, subtracted, subtraction, terminated, used}
use Rattle.al_sound_operators.specs.Typed.{IfGood, IsOperand, IsTyped, IsUsable}
use Rattle.al_sound_operators.specs.Operands.{IsOf}

-- a value that is asked whether it is 0
pub record IsAsked (s : Scope) (e : TExpr) : Type 0 where
  pub usable : IsUsable s e
  pub scalar : is_scalar (type_of e) ≡ true

-- an argument of a print: an integer is promoted
pub record IsPrinted (s : Scope) (e : TExpr) : Type 0 where
  pub usable : IsUsable s e
  pub promoted : is_integer (type_of e) ≡ true → IsPromoted (type_of e)

-- what an operator makes of two values, and of two operands
abbrev pub OfValues : (Scope → Place → TExpr → TExpr → Type 0) → Type 0
OfValues Gives = (s : Scope) (at : Place) (a b : TExpr) → IsUsable s a → IsUsable s b → Gives s at a b

abbrev pub OfOperands : (Scope → Place → Operand → Operand → Type 0) → Type 0
OfOperands Gives = (s : Scope) (at : Place) (x y : Operand) → IsOperand s x → IsOperand s y → Gives s at x y

abbrev pub OfOperand : (Scope → Place → Operand → Type 0) → Type 0
OfOperand Gives = (s : Scope) (at : Place) (x : Operand) → IsOperand s x → Gives s at x

pub record OperatorsAreSound : Type 0 where
  pub multiplied : (how : BinaryOp) → OfValues (λ s at a b. IfGood (multiplied at how a b) (IsUsable s))
  pub multiplication : (how : BinaryOp) → OfOperands (λ s at x y. IfGood (multiplication at how x y) (IsUsable s))
  pub combined : (how : BinaryOp) → OfValues (λ s at a b. IfGood (combined at how a b) (IsUsable s))
  pub bitwise : (how : BinaryOp) → OfOperands (λ s at x y. IfGood (bitwise at how x y) (IsUsable s))
  pub shifted_by : (how : BinaryOp) → OfValues (λ s at a b. IfGood (shifted_by at how a b) (IsUsable s))
  pub shift : (how : BinaryOp) → OfOperands (λ s at x y. IfGood (shift at how x y) (IsUsable s))
  pub signed : (how : UnaryOp) → OfOperand (λ s at x. IfGood (signed at how x) (IsUsable s))
  pub complement : (how : UnaryOp) → OfOperand (λ s at x. IfGood (complement at how x) (IsUsable s))
  pub added : OfValues (λ s at a b. IfGood (added (rows s) at a b) (IsUsable s))
  pub addition : OfOperands (λ s at x y. IfGood (addition (rows s) at x y) (IsUsable s))
  pub subtracted : OfValues (λ s at a b. IfGood (subtracted (rows s) at a b) (IsUsable s))
  pub subtraction : OfOperands (λ s at x y. IfGood (subtraction (rows s) at x y) (IsUsable s))
  pub order : (how : BinaryOp) → OfOperands (λ s at x y. IfGood (order at how x y) (IsUsable s))
  pub equality : (how : BinaryOp) → OfOperands (λ s at x y. IfGood (equality at how x y) (IsUsable s))
  pub condition : OfOperand (λ s at x. IfGood (condition at x) (IsAsked s))
  pub negation : OfOperand (λ s at x. IfGood (negation at x) (IsUsable s))
  pub decision : (how : Logic) → OfOperands (λ s at x y. IfGood (decision at how x y) (IsUsable s))
  -- each operator between two operands
  pub binary : (how : Written) → OfOperands (λ s at x y. IfGood (binary (rows s) at how x y) (IsUsable s))
  pub cast : (to : Ty) → OfOperand (λ s at x. is_sound (rows s) to ≡ true → IfGood (cast at to x) (IsOf s to))
  pub received : OfOperand (λ s at x. IfGood (received at x) (IsUsable s))
  pub can_receive : OfOperand (λ s at x. IfGood (can_receive at x) (IsUsable s))
  pub can_send : OfOperand (λ s at x. IfGood (can_send at x) (IsUsable s))
  pub sent : OfOperands (λ s at x y. IfGood (sent at x y) (IsTyped s))
  pub printable : (s : Scope) (e : TExpr) → IsUsable s e → IsPrinted s (printable e)
  pub printed : (s : Scope) (at : Place) (format : Option (List PrintPiece)) (es : List TExpr) → All (IsPrinted s) es → IfGood (printed at format es) (IsTyped s)
  pub terminated : OfOperand (λ s at x. IfGood (terminated at x) (IsTyped s))
  pub size_of_type : (s : Scope) (at : Place) (of : Ty) → is_sound (rows s) of ≡ true → IfGood (size_of_type (rows s) at of) (IsUsable s)
  pub size_of_value : (s : Scope) (at : Place) (x : Operand) → IsTyped s x.value → IfGood (size_of_value (rows s) at x) (IsUsable s)
  -- a value that is used is no void
  pub used : (s : Scope) (at : Place) (e : TExpr) → IsTyped s e → IfGood (used at e) (λ a. (a ≡ e) × IsUsable s a)
