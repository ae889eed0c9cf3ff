-- What the induction over statements rests on: the terms in them.
use Rattle.std.proofs.Common.{◌≡◌, ℕ, List, [], ◌∷◌, ◌++◌, Some}
use Rattle.std.specs.Prelude.{false, slice_get}
use Rattle.std.specs.List.{AllByRecursion}
use Rattle.al_typed.specs.declared.ty.Ty.{Ty}
use Rattle.al_typed.specs.declared.expression.TExpr.{TExpr, Held-TExpr-Call-2, Row_of-TExpr}
use Rattle.al_typed.specs.declared.expression.TPlace.{TPlace}
use Rattle.al_typed.specs.declared.expression.TTarget.{TTarget}
use Rattle.al_typed.specs.declared.program.Function.{Function as FunctionRow}
use Rattle.al_typed.specs.declared.program.Local.{Local as LocalRow}
use Rattle.al_typed.specs.Types.{is_void, is_array}
use Rattle.al_typed.specs.Typed.{type_of, target_type, row_types, parameter_types}
use Rattle.al_typed.specs.WellTyped.{IsCallable, IsChannelOf, IsValue, AreValues, IsPlace, IsTarget, IsGiven}
use Rattle.al_meaning.specs.Places.{function_at}
use Rattle.al_lower_bodies.proofs.Bodies.{Body, scope_of, ValueIn, PlaceIn, ValuesIn, ObjectIn}
use Rattle.al_lower_received.proofs.Receiving.{TargetIn}

-- a type of what is passed to functions or goes into targets
abbrev pub IsPassed : Ty → Type 0
IsPassed t = (is_void t ≡ false) × (is_array t ≡ false)

-- The terms of a function do what they mean, if they are well typed; rows of values, objects and targets, where their types are
-- passed. What channels carry is.
pub record TermsDo (b : Body) : Type 0 where
  pub value : (line iterators : ℕ) (e : TExpr) → IsValue (scope_of b iterators) e → ValueIn b line iterators e
  pub place : (line iterators : ℕ) (place : TPlace) → IsPlace (scope_of b iterators) place → PlaceIn b line iterators place
  pub values : (line iterators : ℕ) {m : _} (es : Row_of-TExpr m) → AreValues (scope_of b iterators) es → AllByRecursion IsPassed (row_types es) → ValuesIn b line iterators es
  pub object : (line iterators : ℕ) (o : Held-TExpr-Call-2) (given : List Ty) → IsGiven (scope_of b iterators) o given → AllByRecursion IsPassed given → ObjectIn b line iterators o given
  pub target : (line : ℕ) (target : TTarget) → IsTarget (scope_of b 0) target → IsPassed (target_type target) → TargetIn b line target
  pub carried : (chan : TExpr) (t : Ty) → IsValue (scope_of b 0) chan → IsChannelOf (type_of chan) t → IsPassed t

-- Besides, the locals of the function have values, what it returns is no array, parameters of functions are passed, and branches of its
-- pars have no parameters.
pub record Premises (b : Body) : Type 0 where
  pub terms : TermsDo b
  pub locals : (n : ℕ) (l : LocalRow) → slice_get b.row.locals n ≡ Some l → is_void l.ty ≡ false
  pub returns : is_void b.row.returns ≡ false → is_array b.row.returns ≡ false
  pub parameters : (number : ℕ) (g : FunctionRow) → IsCallable b.program number g → AllByRecursion IsPassed (parameter_types g)
  pub branches : (branch : ℕ) (g : FunctionRow) → function_at b.program branch ≡ Some g → g.around ≡ b.row.around ++ b.function ∷ [] → g.parameters ≡ 0
