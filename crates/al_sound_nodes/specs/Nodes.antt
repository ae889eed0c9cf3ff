-- What names, members and their uses give is well typed, where the environment tells of the names.
use Rattle.std.specs.Prelude.{◌≡◌, ℕ, ◌<◌, ◌^◌, ◌++◌, Bool, true, false, ◌&&◌, ◌||◌, ◌⊎◌, All, List, [], Option, Some, slice_get, ⊤}
use Rattle.al_base.specs.Arith.{width_of}
use Rattle.al_base.specs.declared.place.Place.{Place}
use Rattle.al_tree.specs.declared.integer.Integer.{Integer}
use Rattle.al_tree.specs.declared.constants.EnumConstant.{EnumConstant}
use Rattle.al_scope.specs.declared.declaration.Declaration.{Declaration}
use Rattle.al_scope.specs.declared.declaration.Declaration.TheVariants as declaration
use Rattle.al_typed.specs.declared.ty.Ty.{Ty}
use Rattle.al_typed.specs.declared.ty.Ty.TheVariants as ty
use Rattle.al_typed.specs.declared.program.Aggregate.{Aggregate as AggregateRow}
use Rattle.al_typed.specs.declared.expression.TPlace.{TPlace}
use Rattle.al_typed.specs.declared.expression.TPlace.TheVariants as place
use Rattle.al_typed.specs.Types.{is_void, is_whole}
use Rattle.al_typed.specs.WellTyped.{HasAddress, IsFunctionOfType, LeadsTo, Scope, Takes, is_sound, is_stored, passes, rows}
use Rattle.al_environment.specs.declared.environment.Environment.{Environment}
use Rattle.al_environment.specs.declared.environment.Here.{Here}
use Rattle.al_environment.specs.declared.environment.NamedFunction.{NamedFunction}
use Rattle.al_environment.specs.declared.environment.NamedMember.{NamedMember}
use Rattle.al_environment.specs.declared.environment.Round.{Round}
use Rattle.al_environment.specs.declared.environment.Signature.{Signature}
use Rattle.al_environment.specs.declared.environment.Variable.{Variable}
use Rattle.al_environment.specs.Lookups.{function, function_named, global, local, member_named, round}
use Rattle.al_operands.specs.declared.operand.Operand.{Operand}
use Rattle.al_type_nodes.specs.declared.found.Found.{Found}
use Rattle.al_type_nodes.specs.declared.found.Found.TheVariants as found
use Rattle.al_type_nodes.specs.Uses.{addressed, dropped, operand, placed, sized}
use Rattle.al_type_nodes.specs.Names.{declared}
use Rattle.al_type_nodes.specs.Members.{arrow, dot}
use Rattle.al_sound_operators.specs.Typed.{IfGood, IsFoundValue, IsOperand, IsSoundPlace, IsTyped, IsUsable}

-- ---- what the environment tells

-- the type of a parameter
abbrev pub is_passed : List AggregateRow → Ty → Bool
is_passed rows t = is_sound rows t && is_whole rows t

-- The function of that number is called by a signature, and gets these of its object.
pub record Calls (s : Scope) (f : Signature) (number : ℕ) (given : List Ty) : Type 0 where
  pub takes : Takes s.names number (given ++ f.parameters) f.returns
  pub sound : is_sound (rows s) f.returns ≡ true
  pub whole : (is_void f.returns || is_whole (rows s) f.returns) ≡ true
  pub passed : All (λ t. is_passed (rows s) t ≡ true) f.parameters

-- A function that is named: its name is called, and is a value.
pub record IsFunctionOf (s : Scope) (f : Signature) (number : ℕ) : Type 0 where
  pub calls : Calls s f number []
  pub value : IsFunctionOfType s.names number (ty.Pointer (ty.Function f.returns f.parameters))

-- A global. One that is not private has an address.
pub record IsGlobalOf (s : Scope) (v : Variable) : Type 0 where
  pub sound : IsSoundPlace s (place.Global v.ty v.number)
  pub open_to : v.is_private ≡ false → HasAddress s (place.Global v.ty v.number)

-- a member of an aggregate
pub record IsMemberOf (s : Scope) (aggregate : ℕ) (m : NamedMember) : Type 0 where
  pub leads : LeadsTo (rows s) m.path (ty.Aggregate aggregate) m.ty
  pub stored : is_stored (rows s) m.ty ≡ true

-- a function of an aggregate, where the text has a body of it
pub record IsMethodOf (s : Scope) (aggregate : ℕ) (f : NamedFunction) (number : ℕ) : Type 0 where
  pub object : Ty
  pub leads : LeadsTo (rows s) f.path (ty.Aggregate aggregate) object
  pub calls : Calls s f.signature number (passes f.passed object)

-- Names stand for what is among the names, where an expression stands.
pub record Tells (s : Scope) (env : Environment) (here : Here) : Type 0 where
  pub aggregates : env.aggregates ≡ rows s
  pub globals : (n : ℕ) (v : Variable) → global env n ≡ Some v → IsGlobalOf s v
  pub locals : (n : ℕ) (v : Variable) → local here n ≡ Some v → IsSoundPlace s (place.Local v.ty v.number)
  pub constants : (n : ℕ) (c : EnumConstant) (i : Integer) → slice_get env.scopes.constants.list n ≡ Some c → c.value ≡ Some i → i.bits < 2 ^ width_of i.kind
  pub functions : (n number : ℕ) (f : Signature) → function env n ≡ Some f → f.number ≡ Some number → IsFunctionOf s f number
  pub members : (aggregate name : ℕ) (m : NamedMember) → member_named env aggregate name ≡ Some m → IsMemberOf s aggregate m
  pub methods : (aggregate name number : ℕ) (f : NamedFunction) → function_named env aggregate name ≡ Some f → f.signature.number ≡ Some number
      → IsMethodOf s aggregate f number

-- A local of a function round the branch at hand is shared, where it is named.
abbrev pub IsReached : Scope → Here → Option Declaration → Type 0
IsReached s here (Some (declaration.Outer k n)) = (r : Round) (v : Variable) → round here k ≡ Some r → slice_get r.locals n ≡ Some v → IsSoundPlace s (place.Outer v.ty r.number v.number)
IsReached s here _ = ⊤

-- ---- what is found

abbrev pub IsLocalPlace : TPlace → Type 0
IsLocalPlace p = (t : Ty) × (n : ℕ) × (p ≡ place.Local t n)

-- A place, and whether it is a private global. What is none has an address, where it is not a local that is private.
pub record IsFoundPlace (s : Scope) (p : TPlace) (is_private : Bool) : Type 0 where
  pub place : IsSoundPlace s p
  pub open_to : is_private ≡ false → HasAddress s p ⊎ IsLocalPlace p

abbrev pub IsFound : Scope → Found → Type 0
IsFound s (found.Place p is_private) = IsFoundPlace s p is_private
IsFound s (found.Value x) = IsFoundValue s x

-- a local that is found is shared
abbrev pub IsShared : Scope → Found → Type 0
IsShared s f = (p : TPlace) (is_private : Bool) → f ≡ found.Place p is_private → IsLocalPlace p → HasAddress s p

pub record NodesAreSound : Type 0 where
  pub operand : (s : Scope) (at : Place) (f : Found) → IsFound s f → IfGood (operand (rows s) at f) (IsOperand s)
  pub dropped : (s : Scope) (at : Place) (f : Found) → IsFound s f → IfGood (dropped (rows s) at f) (IsTyped s)
  pub sized : (s : Scope) (at : Place) (f : Found) → IsFound s f → IfGood (sized (rows s) at f) (IsUsable s)
  pub placed : (s : Scope) (at : Place) (f : Found) → IsFound s f → IfGood (placed at f) (IsSoundPlace s)
  pub addressed : (s : Scope) (at : Place) (f : Found) → IsFound s f → IsShared s f → IfGood (addressed at f) (IsUsable s)
  pub declared : (s : Scope) (env : Environment) (here : Here) → Tells s env here → (at : Place) (d : Option Declaration) → IsReached s here d → IfGood (declared env here at d) (IsFound s)
  pub dot : (s : Scope) (env : Environment) (here : Here) → Tells s env here → (at : Place) (name : ℕ) (f : Found) → IsFound s f → IfGood (dot env here at name f) (IsFound s)
  pub arrow : (s : Scope) (env : Environment) (here : Here) → Tells s env here → (at : Place) (name : ℕ) (x : Operand) → IsOperand s x → IfGood (arrow env here at name x) (IsFound s)
