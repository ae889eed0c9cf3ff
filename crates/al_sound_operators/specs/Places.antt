-- What is done with places, and what makes a place, is well typed, where the places and operands are.
use Rattle.al_base.specs.declared.place.Place.{Place}
use Rattle.al_tree.specs.declared.expression.BinaryOp.{BinaryOp as Written}
use Rattle.al_typed.specs.declared.expression.BinaryOp.{BinaryOp}
use Rattle.al_typed.specs.declared.expression.StepOp.{StepOp}
use Rattle.al_typed.specs.declared.expression.TExpr.{TExpr}
use Rattle.al_typed.specs.declared.expression.TPlace.{TPlace}
use Rattle.al_typed.specs.WellTyped.{HasAddress, Scope, rows}
use Rattle.al_operands.specs.declared.operand.Operand.{Operand}
use Rattle.al_places.specs.Places.{address, assigned, index, indexed, indirection, loaded, pointed_by, size_of_place, stepped, updated, updated_with, zeroed}
use Rattle.al_sound_operators.specs.Typed.{IfGood, IsOperand, IsSoundPlace, IsUsable}

-- a place that has an address
pub record IsOpenPlace (s : Scope) (p : TPlace) : Type 0 where
  pub place : IsSoundPlace s p
  pub address : HasAddress s p

pub record PlacesAreSound : Type 0 where
  pub loaded : (s : Scope) (at : Place) (p : TPlace) → IsSoundPlace s p → IfGood (loaded (rows s) at p) (IsUsable s)
  -- Rule 19 keeps the address of a private global from being taken, and a local whose address is taken is shared.
  pub address : (s : Scope) (p : TPlace) → IsSoundPlace s p → HasAddress s p → IsUsable s (address p)
  pub size_of_place : (s : Scope) (at : Place) (p : TPlace) → IsSoundPlace s p → IfGood (size_of_place (rows s) at p) (IsUsable s)
  pub pointed_by : (s : Scope) (at : Place) (a : TExpr) → IsUsable s a → IfGood (pointed_by at a) (IsOpenPlace s)
  pub indirection : (s : Scope) (at : Place) (x : Operand) → IsOperand s x → IfGood (indirection at x) (IsOpenPlace s)
  pub indexed : (s : Scope) (at : Place) (a b : TExpr) → IsUsable s a → IsUsable s b → IfGood (indexed (rows s) at a b) (IsOpenPlace s)
  pub index : (s : Scope) (at : Place) (x y : Operand) → IsOperand s x → IsOperand s y → IfGood (index (rows s) at x y) (IsOpenPlace s)
  pub assigned : (s : Scope) (at : Place) (p : TPlace) (x : Operand) → IsSoundPlace s p → IsOperand s x → IfGood (assigned at p x) (IsUsable s)
  pub updated_with : (s : Scope) (at : Place) (how : BinaryOp) (p : TPlace) (e : TExpr) → IsSoundPlace s p → IsUsable s e → IfGood (updated_with (rows s) at how p e) (IsUsable s)
  pub updated : (s : Scope) (at : Place) (how : Written) (p : TPlace) (x : Operand) → IsSoundPlace s p → IsOperand s x → IfGood (updated (rows s) at how p x) (IsUsable s)
  pub stepped : (s : Scope) (at : Place) (how : StepOp) (p : TPlace) → IsSoundPlace s p → IfGood (stepped (rows s) at how p) (IsUsable s)
  pub zeroed : (s : Scope) (at : Place) (p : TPlace) → IsSoundPlace s p → IfGood (zeroed (rows s) at p) (IsUsable s)
