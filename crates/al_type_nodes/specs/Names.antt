-- What a name in an expression is.
use Rattle.std.specs.Prelude.{ℕ, false, slice_get, Option, Some, None}
use Rattle.std.specs.Option.{unwrap_or}
use Rattle.al_base.specs.declared.place.Place.{Place}
use Rattle.al_rules.specs.Outcome.{Outcome, Good, Bad, ask, judge}
use Rattle.al_tree.specs.declared.integer.Integer.{Integer}
use Rattle.al_tree.specs.declared.constants.EnumConstant.{EnumConstant}
use Rattle.al_scope.specs.declared.declaration.Declaration.{Declaration}
use Rattle.al_scope.specs.declared.declaration.Declaration.TheVariants as declaration
use Rattle.al_scope.specs.Firsts.{declaration_at}
use Rattle.al_typed.specs.declared.ty.Ty.{Ty}
use Rattle.al_typed.specs.declared.ty.Ty.TheVariants as ty
use Rattle.al_typed.specs.declared.expression.TExpr.TheVariants as expr
use Rattle.al_typed.specs.declared.expression.TPlace.TheVariants as place
use Rattle.al_environment.specs.declared.environment.Environment.{Environment}
use Rattle.al_environment.specs.declared.environment.Here.{Here}
use Rattle.al_environment.specs.declared.environment.Round.{Round}
use Rattle.al_environment.specs.declared.environment.Signature.{Signature}
use Rattle.al_environment.specs.declared.environment.Variable.{Variable}
use Rattle.al_environment.specs.Lookups.{global, local, round, function}
use Rattle.al_type_nodes.specs.declared.found.Found.{Found}
use Rattle.al_type_nodes.specs.declared.found.Found.TheVariants as found
use Rattle.al_type_nodes.specs.Rules as rule
use Rattle.al_type_nodes.specs.Uses.{value, place_of}

-- the number of a function in the program
abbrev pub number_of : Signature → ℕ
number_of f = unwrap_or f.number 0

-- the type of a function
abbrev pub function_type : Signature → Ty
function_type f = ty.Function f.returns f.parameters

unfoldable pub global_found : Place → Option Variable → Outcome Found
global_found at None = Bad (ask 1 at false)
global_found at (Some v) = Good (found.Place (place.Global v.ty v.number) v.is_private)

unfoldable pub local_found : Place → Option Variable → Outcome Found
local_found at None = Bad (ask 1 at false)
local_found at (Some v) = Good (place_of (place.Local v.ty v.number))

unfoldable pub outer_found : Place → ℕ → Option Variable → Outcome Found
outer_found at around None = Bad (ask 1 at false)
outer_found at around (Some v) = Good (place_of (place.Outer v.ty around v.number))

-- a parameter or local of a function round the par branch at hand
unfoldable pub round_found : Place → Option Round → ℕ → Outcome Found
round_found at None n = Bad (ask 1 at false)
round_found at (Some r) n = outer_found at r.number (slice_get r.locals n)

-- a function as a value: a pointer to it
abbrev pub function_value : Signature → Found
function_value f = value (expr.Function (ty.Pointer (function_type f)) (number_of f))

unfoldable pub defined_function : Place → Signature → Outcome Found
defined_function at f = judge (ask 5 at (rule.rule_5_is_defined f)) (function_value f)

unfoldable pub function_found : Place → Option Signature → Outcome Found
function_found at None = Bad (ask 1 at false)
function_found at (Some f) = defined_function at f

abbrev pub integer_found : Place → Option Integer → Outcome Found
integer_found at None = Bad (ask 22 at false)
integer_found at (Some i) = Good (value (expr.Constant (ty.Integer i.kind) i.bits))

unfoldable pub constant_found : Place → Option EnumConstant → Outcome Found
constant_found at None = Bad (ask 1 at false)
constant_found at (Some c) = integer_found at c.value

-- 9. print and terminate are only called.
unfoldable pub declared_as : Environment → Here → Place → Declaration → Outcome Found
declared_as env here at (declaration.Global n) = global_found at (global env n)
declared_as env here at (declaration.Function n) = function_found at (function env n)
declared_as env here at (declaration.Constant n) = constant_found at (slice_get env.scopes.constants.list n)
declared_as env here at (declaration.Local n) = local_found at (local here n)
declared_as env here at (declaration.Outer around n) = round_found at (round here around) n
declared_as env here at declaration.Print = Bad (ask 9 at false)
declared_as env here at declaration.Terminate = Bad (ask 9 at false)

-- 1. A name that is used is declared before, and is in scope.
unfoldable pub declared : Environment → Here → Place → Option Declaration → Outcome Found
declared env here at None = Bad (ask 1 at false)
declared env here at (Some d) = declared_as env here at d

abbrev pub named : Environment → Here → Place → Outcome Found
named env here at = declared env here at (declaration_at env.scopes.names at)
