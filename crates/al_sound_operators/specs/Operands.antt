-- What is well typed when operands are converted and taken.
use Rattle.std.specs.Prelude.{◌≡◌, ℕ, true}
use Rattle.al_base.specs.declared.arith.Kind.{Kind}
use Rattle.al_base.specs.declared.place.Place.{Place}
use Rattle.al_typed.specs.declared.ty.Ty.{Ty}
use Rattle.al_typed.specs.declared.ty.Ty.TheVariants as ty
use Rattle.al_typed.specs.declared.expression.TExpr.{TExpr}
use Rattle.al_typed.specs.Typed.{type_of}
use Rattle.al_typed.specs.WellTyped as well
use Rattle.al_typed.specs.WellTyped.{Scope, is_sound, rows}
use Rattle.al_operands.specs.declared.operand.Operand.{Operand}
use Rattle.al_operands.specs.Operands.{converted, in_kind, plain, plains, taken}
use Rattle.al_sound_operators.specs.Typed.{IfGood, IsOperand, IsUsable}

-- a usable value of that type
pub record IsOf (s : Scope) (t : Ty) (e : TExpr) : Type 0 where
  pub usable : IsUsable s e
  pub is : type_of e ≡ t

-- two usable values
abbrev pub AreUsable : Scope → TExpr × TExpr → Type 0
AreUsable s p = IsUsable s p.0 × IsUsable s p.1

pub record OperandsAreSound : Type 0 where
  -- a value that converts, as one of the type that is asked for
  pub converted : (s : Scope) (to : Ty) (e : TExpr) → IsUsable s e → is_sound (rows s) to ≡ true → well.converts (type_of e) to ≡ true → IsOf s to (converted to e)
  pub in_kind : (s : Scope) (k : Kind) (e : TExpr) → IsUsable s e → well.converts (type_of e) (ty.Integer k) ≡ true → IsOf s (ty.Integer k) (in_kind k e)
  pub taken : (s : Scope) (number : ℕ) (at : Place) (to : Ty) (x : Operand) → IsOperand s x → is_sound (rows s) to ≡ true → IfGood (taken number at to x) (IsOf s to)
  -- a plain operand is its value
  pub plain : (x : Operand) → IfGood (plain x) (λ e. e ≡ x.value)
  pub plains : (s : Scope) (x y : Operand) → IsOperand s x → IsOperand s y → IfGood (plains x y) (AreUsable s)
