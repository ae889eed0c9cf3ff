-- What is called is well typed, where the environment tells of the names.
use Rattle.std.specs.Prelude.{◌≡◌, ℕ, ◌++◌, true, ◌||◌, All, List, Option, Some, None, ⊤, []}
use Rattle.al_base.specs.declared.place.Place.{Place}
use Rattle.al_scope.specs.declared.declaration.Declaration.{Declaration}
use Rattle.al_typed.specs.declared.ty.Ty.{Ty}
use Rattle.al_typed.specs.declared.ty.Ty.TheVariants as ty
use Rattle.al_typed.specs.declared.expression.TExpr.{TExpr}
use Rattle.al_typed.specs.declared.expression.TReceiver.{TReceiver}
use Rattle.al_typed.specs.Types.{is_void, is_whole}
use Rattle.al_typed.specs.Typed.{type_of}
use Rattle.al_typed.specs.WellTyped.{Gives, Scope, Takes, is_sound, rows}
use Rattle.al_environment.specs.declared.environment.Environment.{Environment}
use Rattle.al_environment.specs.declared.environment.Here.{Here}
use Rattle.al_operands.specs.declared.operand.Operand.{Operand}
use Rattle.al_type_nodes.specs.declared.found.Found.{Found}
use Rattle.al_type_calls.specs.declared.callee.Callee.{Callee}
use Rattle.al_type_calls.specs.declared.callee.Callee.TheVariants as callee
use Rattle.al_type_calls.specs.Callees.{arrow_callee, declared_callee, dot_callee, pointer_callee}
use Rattle.al_sound_operators.specs.Typed.{IfGood, IsOperand, IsUsable}
use Rattle.al_sound_nodes.specs.Nodes.{IsFound, IsReached, Tells, is_passed}

-- what the object before a function's name gives to it, where there is one
abbrev pub IsGivenBy : Scope → Option TReceiver → List Ty → Type 0
IsGivenBy s None given = given ≡ []
IsGivenBy s (Some r) given = Gives s r given

-- what a call returns, and what it takes
pub record HasTypes (s : Scope) (returns : Ty) (parameters : List Ty) : Type 0 where
  pub sound : is_sound (rows s) returns ≡ true
  pub whole : (is_void returns || is_whole (rows s) returns) ≡ true
  pub passed : All (λ t. is_passed (rows s) t ≡ true) parameters

-- a function that is called by its name, with the object before it
pub record IsNamedCallee (s : Scope) (returns : Ty) (number : ℕ) (receiver : Option TReceiver) (parameters : List Ty) : Type 0 where
  pub types : HasTypes s returns parameters
  pub given : List Ty
  pub is_given : IsGivenBy s receiver given
  pub takes : Takes s.names number (given ++ parameters) returns

-- a pointer to a function
pub record IsPointerCallee (s : Scope) (returns : Ty) (pointer : TExpr) (parameters : List Ty) : Type 0 where
  pub types : HasTypes s returns parameters
  pub usable : IsUsable s pointer
  pub is : type_of pointer ≡ ty.Pointer (ty.Function returns parameters)

abbrev pub IsCallee : Scope → Callee → Type 0
IsCallee s callee.Print = ⊤
IsCallee s callee.Terminate = ⊤
IsCallee s (callee.Function returns number receiver parameters) = IsNamedCallee s returns number receiver parameters
IsCallee s (callee.Pointer returns pointer parameters) = IsPointerCallee s returns pointer parameters

pub record CalleesAreSound : Type 0 where
  pub pointer_callee : (s : Scope) (at : Place) (x : Operand) → IsOperand s x → IfGood (pointer_callee at x) (IsCallee s)
  pub declared_callee : (s : Scope) (env : Environment) (here : Here) → Tells s env here → (at : Place) (d : Option Declaration) → IsReached s here d → IfGood (declared_callee env here at d) (IsCallee s)
  pub dot_callee : (s : Scope) (env : Environment) (here : Here) → Tells s env here → (at : Place) (name : ℕ) (f : Found) → IsFound s f → IfGood (dot_callee env here at name f) (IsCallee s)
  pub arrow_callee : (s : Scope) (env : Environment) (here : Here) → Tells s env here → (at : Place) (name : ℕ) (x : Operand) → IsOperand s x → IfGood (arrow_callee env here at name x) (IsCallee s)
