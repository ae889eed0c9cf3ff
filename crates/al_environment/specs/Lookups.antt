-- What names stand for in an environment.
use Rattle.std.specs.Prelude.{ℕ, ◌==◌, ◌&&◌, Bool, true, false, List, [], ◌∷◌, find, position, slice_get, Option, Some, None, option_map, option_and_then, if◌then◌else◌}
use Rattle.std.specs.List.{list_all}
use Rattle.al_typed.specs.declared.ty.Ty.{Ty}
use Rattle.al_typed.specs.declared.ty.Ty.TheVariants as ty
use Rattle.al_environment.specs.declared.environment.NamedMember.{NamedMember}
use Rattle.al_environment.specs.declared.environment.NamedFunction.{NamedFunction}
use Rattle.al_environment.specs.declared.environment.MemberNames.{MemberNames}
use Rattle.al_environment.specs.declared.environment.Signature.{Signature}
use Rattle.al_environment.specs.declared.environment.Variable.{Variable}
use Rattle.al_environment.specs.declared.environment.Round.{Round}
use Rattle.al_environment.specs.declared.environment.InstanceType.{InstanceType}
use Rattle.al_environment.specs.declared.environment.OwnAdt.{OwnAdt}
use Rattle.al_environment.specs.declared.environment.Environment.{Environment}
use Rattle.al_environment.specs.declared.environment.Here.{Here}
use Rattle.al_convert.specs.Same.{same_list}

-- ---- variables and functions

abbrev pub global : Environment → ℕ → Option Variable
global env n = slice_get env.globals n

abbrev pub local : Here → ℕ → Option Variable
local here n = slice_get here.locals n

abbrev pub round : Here → ℕ → Option Round
round here n = slice_get here.around n

abbrev pub local_of : Option Round → ℕ → Option Variable
local_of None n = None
local_of (Some r) n = slice_get r.locals n

-- a function outside of adts
abbrev pub function : Environment → ℕ → Option Signature
function env n = slice_get env.functions n

-- ---- members

abbrev pub members_in : Option MemberNames → List NamedMember
members_in None = []
members_in (Some names) = names.members

abbrev pub functions_in : Option MemberNames → List NamedFunction
functions_in None = []
functions_in (Some names) = names.functions

-- the data member of that name
unfoldable pub member_named : Environment → (aggregate name : ℕ) → Option NamedMember
member_named env aggregate name = find (λ (m : NamedMember). m.name == name) (members_in (slice_get env.names aggregate))

-- the function of that name
unfoldable pub function_named : Environment → (aggregate name : ℕ) → Option NamedFunction
function_named env aggregate name = find (λ (f : NamedFunction). f.name == name) (functions_in (slice_get env.names aggregate))

abbrev pub is_own : Option OwnAdt → ℕ → Bool
is_own None adt = false
is_own (Some own) adt = own.aggregate == adt

-- inside the functions of each of these adts
abbrev pub is_inside : Here → List ℕ → Bool
is_inside here adts = list_all (is_own here.own) adts

-- ---- types

abbrev pub parameter_named : OwnAdt → ℕ → Option ℕ
parameter_named own name = position (λ p. p == name) own.parameters

-- the argument of a parameter of the own adt
unfoldable pub argument : OwnAdt → ℕ → Option Ty
argument own name = option_and_then (λ k. slice_get own.arguments k) (parameter_named own name)

-- the own adt, or the instance of it that is at hand
abbrev pub own_type : OwnAdt → ℕ → Option Ty
own_type own name = if own.name == name then Some (ty.Aggregate own.aggregate) else None

abbrev pub or_else : {A : Type 0} → Option A → Option A → Option A
or_else None other = other
or_else (Some x) other = Some x

-- inside the functions of an adt
abbrev pub inner_type : Option OwnAdt → ℕ → Option Ty
inner_type None name = None
inner_type (Some own) name = or_else (argument own name) (own_type own name)

abbrev pub there : {A : Type 0} → Option (Option A) → Option A
there None = None
there (Some x) = x

-- outside of adts with parameters
abbrev pub outer_type : Environment → ℕ → Option Ty
outer_type env name = there (slice_get env.types name)

-- what a name without type arguments stands for
unfoldable pub plain_type : Environment → Here → ℕ → Option Ty
plain_type env here name = or_else (inner_type here.own name) (outer_type env name)

-- that instance of that adt: its arguments are the same, capacities counted
abbrev pub is_instance : ℕ → List Ty → InstanceType → Bool
is_instance adt arguments i = i.adt == adt && same_list true i.arguments arguments

unfoldable pub instance_type : Environment → ℕ → List Ty → Option Ty
instance_type env adt arguments = option_map (λ (i : InstanceType). ty.Aggregate i.aggregate) (find (is_instance adt arguments) env.instances)
