-- Expressions that have the operations of a part of them, operators on one value, and moves of pointers.
use Rattle.std.specs.Prelude.{ℕ, ◌≡◌, ◌<◌, Bool, true, false, List, ◌++◌, Some, None}
use Rattle.al_typed.specs.declared.ty.Ty.{Ty}
use Rattle.al_typed.specs.declared.expression.TExpr.{TExpr, size-TExpr}
use Rattle.al_typed.specs.declared.expression.UnaryOp.{UnaryOp}
use Rattle.al_typed.specs.declared.expression.UnaryOp.TheVariants as unary
use Rattle.al_typed.specs.declared.expression.Movement.{Movement}
use Rattle.al_typed.specs.declared.expression.Movement.TheVariants as movement
use Rattle.al_typed.specs.ExpressionForms as form
use Rattle.al_typed.specs.Typed.{type_of}
use Rattle.al_lower_code.specs.Homes.{Spot}
use Rattle.al_lower_code.specs.Operators.{stays}
use Rattle.al_lower_code.specs.Coded.{Coded, operand_code, operand_slot}
use Rattle.al_lower_code.specs.Values.{unary_coded}
use Rattle.al_lower_code.specs.Expressions.{coded}
use Rattle.al_lower_operands.specs.Folded.{folded_bits}
use Rattle.al_lower_forms.specs.declared.same.Form.{Form}
use Rattle.al_lower_forms.specs.declared.same.Form.TheVariants as found
use Rattle.al_lower_forms.specs.declared.uses.Use.{Use}
use Rattle.al_lower_forms.specs.Uses.{use_code}

abbrev pub is_back : Movement → Bool
is_back movement.Forward = false
is_back movement.CountFirst = false
is_back movement.Back = true

-- an operator on a value of any type is this use of it
abbrev pub Signs : Ty → UnaryOp → Use → Type 0
Signs t op how =
    (s : Spot) (from : Ty) (c : Coded) (dest to : ℕ) → (unary_coded s t op c).value dest to ≡ operand_code c to ++ use_code s from how (operand_slot c to) dest to

abbrev pub is_plus : UnaryOp → Bool
is_plus unary.Plus = true
is_plus unary.Minus = false
is_plus unary.Complement = false

-- `+`, or a conversion that changes no bits
abbrev pub is_same : TExpr → Bool
is_same (form.unary t op of) = is_plus op
is_same (form.cast t of) = stays (type_of of) t
is_same (form.convert t of) = stays (type_of of) t
is_same _ = false

-- an expression has the operations of a part, where it is no constant
abbrev pub Same : TExpr → TExpr → Type 0
Same e part = (s : Spot) → folded_bits s e ≡ None → coded s e ≡ coded s part

-- how the operations of an expression are found
abbrev pub IsForm : Spot → TExpr → Form → Type 0
IsForm s e (found.Folded bits) = folded_bits s e ≡ Some bits
IsForm s e (found.Part of) = coded s e ≡ coded s of.now
IsForm s e found.Open = (folded_bits s e ≡ None) × (is_same e ≡ false)

abbrev pub IsSmaller : TExpr → Form → Type 0
IsSmaller e (found.Folded bits) = Unit {0}
IsSmaller e (found.Part of) = size-TExpr of.now < size-TExpr e
IsSmaller e found.Open = Unit {0}
