-- What declarations give their names as types, with the rules that are asked of these.
--
-- A type that has no meaning breaks rule 7, or one that is asked of the text as a whole; it counts as void behind that.
use Rattle.std.specs.Prelude.{ℕ, zero, suc, List, [], ◌∷◌, ◌++◌, map, fold, reverse, Option, Some, None, option_map, unwrap_or}
use Rattle.std.specs.List.{flat_map}
use Rattle.al_base.specs.declared.place.Place.{Place}
use Rattle.al_tree.specs.Constants.{bound_number}
use Rattle.al_tree.specs.declared.type_tree.Bound.{Bound}
use Rattle.al_tree.specs.declared.type_tree.Dcl.{Dcl}
use Rattle.al_tree.specs.declared.type_tree.TypeTree.{TypeTree}
use Rattle.al_tree.specs.declared.item.Parameter.{Parameter}
use Rattle.al_tree.specs.declared.item.Parameter.TheVariants as parameter
use Rattle.al_rules.specs.declared.fault.TypeFault.{TypeFault}
use Rattle.al_rules.specs.Outcome.{ask}
use Rattle.al_typed.specs.declared.program.Aggregate.{Aggregate}
use Rattle.al_typed.specs.declared.ty.Ty.{Ty}
use Rattle.al_typed.specs.declared.ty.Ty.TheVariants as ty
use Rattle.al_convert.specs.Kinds.{items_of}
use Rattle.al_environment.specs.declared.environment.Signature.{Signature}
use Rattle.al_environment.specs.declared.environment.Environment.{Environment}
use Rattle.al_environment.specs.declared.environment.Here.{Here}
use Rattle.al_environment.specs.Lookups.{plain_type}
use Rattle.al_environment.specs.Written.{written, array_type}
use Rattle.al_type_rules.specs.declared.head.ParameterTypes.{ParameterTypes}
use Rattle.al_type_rules.specs.Rules.{rule_7_value, rule_7_array, rule_16_value, rule_18_size, rule_20_result}
use Rattle.al_type_rules.specs.Written.{faults_in}

-- ---- what stands round a name

unfoldable pub pointers : ℕ → Ty → Ty
pointers zero t = t
pointers (suc n) t = ty.Pointer (pointers n t)

abbrev pub starred : ℕ → Option Ty → Option Ty
starred stars base = option_map (pointers stars) base

abbrev pub bound_of : Environment → Place → Option Bound → Option ℕ
bound_of env at None = None
bound_of env at (Some b) = bound_number env.scopes.constants.list b at

-- arrays of a type, the first bound outermost
unfoldable pub arrays : Environment → Place → List Bound → Option Ty → Option Ty
arrays env at bounds t = fold (λ t b. array_type t (bound_number env.scopes.constants.list b at)) t (reverse bounds)

-- the same of a parameter, where a bound that is missing has no value
unfoldable pub parameter_arrays : Environment → Place → List (Option Bound) → Option Ty → Option Ty
parameter_arrays env at bounds t = fold (λ t b. array_type t (bound_of env at b)) t (reverse bounds)

abbrev pub known : Option Ty → Ty
known t = unwrap_or t ty.Void

-- ---- variables, members and names of types

-- the type of a variable or a member, where its base type is that
unfoldable pub declared : Environment → Option Ty → Dcl → Option Ty
declared env base dcl = arrays env dcl.at dcl.bounds (starred dcl.stars base)

abbrev pub asked_value : List Aggregate → Place → (inner whole : Option Ty) → List TypeFault
asked_value rows at inner whole = ask 16 at (rule_16_value inner) ++ (ask 7 at (rule_7_value rows whole) ++ ask 18 at (rule_18_size rows whole))

unfoldable pub variable_faults : Environment → Option Ty → Dcl → List TypeFault
variable_faults env base dcl = asked_value env.aggregates dcl.at (starred dcl.stars base) (declared env base dcl)

abbrev pub asked_name : List Aggregate → Place → (inner whole : Option Ty) → List TypeFault
asked_name rows at inner whole = ask 16 at (rule_16_value inner) ++ (ask 7 at (rule_7_array rows whole) ++ ask 18 at (rule_18_size rows whole))

-- the name of a type need not be of a complete one
unfoldable pub typedef_faults : Environment → Option Ty → Dcl → List TypeFault
typedef_faults env base dcl = asked_name env.aggregates dcl.at (starred dcl.stars base) (declared env base dcl)

-- ---- functions

abbrev pub asked_result : List Aggregate → Place → Option Ty → List TypeFault
asked_result rows at t = ask 20 at (rule_20_result t) ++ (ask 7 at (rule_7_value rows t) ++ ask 18 at (rule_18_size rows t))

abbrev pub decayed_with : Ty → Option Ty → Ty
decayed_with t None = t
decayed_with t (Some element) = ty.Pointer element

-- an array parameter is a pointer
unfoldable pub decayed : Ty → Ty
decayed t = decayed_with t (items_of t)

-- the array that a parameter declares, without its first bound
abbrev pub inner_array : Environment → Place → List (Option Bound) → Option Ty → Option Ty
inner_array env at [] t = t
inner_array env at (b ∷ bounds) t = parameter_arrays env at bounds t

abbrev pub parameter_of : List (Option Bound) → Option Ty → Option Ty
parameter_of [] t = option_map decayed t
parameter_of (b ∷ bounds) t = option_map ty.Pointer t

-- a parameter of a base type with these bounds
unfoldable pub plain_types : Environment → Place → List (Option Bound) → Option Ty → ParameterTypes
plain_types env at bounds inner =
    let array = inner_array env at bounds inner in record { inner = inner; array = array; whole = parameter_of bounds array }

-- the own adt by value or by a pointer
abbrev pub own_value : Option Ty → ParameterTypes
own_value t = record { inner = t; array = t; whole = t }

abbrev pub own_pointer : Option Ty → ParameterTypes
own_pointer t = own_value (option_map ty.Pointer t)

unfoldable pub place_of : Parameter → Place
place_of (parameter.Plain at base stars name bounds) = at
place_of (parameter.OwnPointer at name) = at
place_of (parameter.OwnValue at name) = at

abbrev pub asked_parameter : List Aggregate → Place → ParameterTypes → List TypeFault
asked_parameter rows at ts =
    ask 16 at (rule_16_value ts.inner)
    ++ (ask 7 at (rule_7_array rows ts.array) ++ (ask 18 at (rule_18_size rows ts.array) ++ ask 7 at (rule_7_value rows ts.whole)))

module _ (env : Environment) (here : Here) where
  unfoldable pub parameter_types : Parameter → ParameterTypes
  parameter_types (parameter.Plain at base stars name bounds) = plain_types env at bounds (starred stars (written env here base))
  parameter_types (parameter.OwnPointer at name) = own_pointer (plain_type env here name)
  parameter_types (parameter.OwnValue at name) = own_value (plain_type env here name)

  -- the faults in what is written
  unfoldable pub inner_faults : Parameter → List TypeFault
  inner_faults (parameter.Plain at base stars name bounds) = faults_in env here base
  inner_faults (parameter.OwnPointer at name) = []
  inner_faults (parameter.OwnValue at name) = []

  abbrev pub parameter_faults : Parameter → List TypeFault
  parameter_faults p = inner_faults p ++ asked_parameter env.aggregates (place_of p) (parameter_types p)

  abbrev pub parameter_type : Parameter → Ty
  parameter_type p = known (parameter_types p).whole

  abbrev pub result_type : TypeTree → (stars : ℕ) → Option Ty
  result_type base stars = starred stars (written env here base)

  -- the types of a function that has no number so far
  unfoldable pub signature : TypeTree → (stars : ℕ) → List Parameter → Signature
  signature base stars list = record { number = None; returns = known (result_type base stars); parameters = map parameter_type list }

  -- with the rules that are asked of them, of the result at a place
  unfoldable pub signature_faults : Place → TypeTree → (stars : ℕ) → List Parameter → List TypeFault
  signature_faults at base stars list = asked_result env.aggregates at (result_type base stars) ++ flat_map parameter_faults list
