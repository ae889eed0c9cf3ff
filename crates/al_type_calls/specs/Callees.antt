-- What is called, once the parts of its name are typed.
use Rattle.std.specs.Prelude.{ℕ, false, List, Option, Some, None}
use Rattle.al_base.specs.declared.place.Place.{Place}
use Rattle.al_rules.specs.Outcome.{Outcome, Good, Bad, ask, judge, and_then}
use Rattle.al_scope.specs.declared.declaration.Declaration.{Declaration}
use Rattle.al_scope.specs.declared.declaration.Declaration.TheVariants as declaration
use Rattle.al_scope.specs.Firsts.{declaration_at}
use Rattle.al_typed.specs.declared.program.Aggregate.{Aggregate}
use Rattle.al_typed.specs.declared.ty.Ty.{Ty}
use Rattle.al_typed.specs.declared.expression.TExpr.{TExpr}
use Rattle.al_typed.specs.declared.expression.TReceiver.{TReceiver}
use Rattle.al_typed.specs.Typed.{type_of, place_type}
use Rattle.al_convert.specs.Same.{pointed}
use Rattle.al_environment.specs.declared.environment.Environment.{Environment}
use Rattle.al_environment.specs.declared.environment.Here.{Here}
use Rattle.al_environment.specs.declared.environment.NamedFunction.{NamedFunction}
use Rattle.al_environment.specs.declared.environment.Signature.{Signature}
use Rattle.al_environment.specs.Lookups.{function}
use Rattle.al_operands.specs.declared.operand.Operand.{Operand}
use Rattle.al_operands.specs.Operands.{plain}
use Rattle.al_type_nodes.specs.declared.found.Found.{Found}
use Rattle.al_type_nodes.specs.declared.found.Found.TheVariants as found
use Rattle.al_type_nodes.specs.Rules as rule
use Rattle.al_type_nodes.specs.Uses.{operand}
use Rattle.al_type_nodes.specs.Names.{number_of, declared}
use Rattle.al_type_nodes.specs.Members.{function_in, dot, arrow}
use Rattle.al_type_nodes.specs.Calls.{dot_receiver, arrow_receiver, returns_behind, parameters_behind}
use Rattle.al_type_calls.specs.declared.callee.Callee.{Callee}
use Rattle.al_type_calls.specs.declared.callee.Callee.TheVariants as callee

-- a function outside of adts
abbrev pub function_called : Signature → Callee
function_called f = callee.Function f.returns (number_of f) None f.parameters

unfoldable pub defined_callee : Place → Signature → Outcome Callee
defined_callee at f = judge (ask 5 at (rule.rule_5_is_defined f)) (function_called f)

unfoldable pub function_callee : Place → Option Signature → Outcome Callee
function_callee at None = Bad (ask 1 at false)
function_callee at (Some f) = defined_callee at f

-- 35. A call has a function, or a value that is a pointer to a function type.
unfoldable pub pointed_callee : Place → TExpr → Option Ty → Option (List Ty) → Outcome Callee
pointed_callee at e None parameters = Bad (ask 35 at false)
pointed_callee at e (Some returns) None = Bad (ask 35 at false)
pointed_callee at e (Some returns) (Some parameters) = Good (callee.Pointer returns e parameters)

abbrev pub value_callee : Place → TExpr → Outcome Callee
value_callee at e = pointed_callee at e (returns_behind (type_of e)) (parameters_behind (type_of e))

unfoldable pub pointer_callee : Place → Operand → Outcome Callee
pointer_callee at x = and_then (plain x) (value_callee at)

-- what is found is called as a pointer
unfoldable pub found_callee : List Aggregate → Place → Found → Outcome Callee
found_callee rows at f = and_then (operand rows at f) (pointer_callee at)

unfoldable pub variable_callee : Environment → Here → Place → Declaration → Outcome Callee
variable_callee env here at d = and_then (declared env here at (Some d)) (found_callee env.aggregates at)

unfoldable pub callee_as : Environment → Here → Place → Declaration → Outcome Callee
callee_as env here at (declaration.Global n) = variable_callee env here at (declaration.Global n)
callee_as env here at (declaration.Function n) = function_callee at (function env n)
callee_as env here at (declaration.Constant n) = variable_callee env here at (declaration.Constant n)
callee_as env here at (declaration.Local n) = variable_callee env here at (declaration.Local n)
callee_as env here at (declaration.Outer around n) = variable_callee env here at (declaration.Outer around n)
callee_as env here at declaration.Print = Good callee.Print
callee_as env here at declaration.Terminate = Good callee.Terminate

-- a bare name
unfoldable pub declared_callee : Environment → Here → Place → Option Declaration → Outcome Callee
declared_callee env here at None = Bad (ask 1 at false)
declared_callee env here at (Some d) = callee_as env here at d

abbrev pub named_callee : Environment → Here → Place → Outcome Callee
named_callee env here at = declared_callee env here at (declaration_at env.scopes.names at)

-- a function of an adt, with the object before its name
abbrev pub method_called : NamedFunction → TReceiver → Callee
method_called f r = callee.Function f.signature.returns (number_of f.signature) (Some r) f.signature.parameters

unfoldable pub method_callee : Place → NamedFunction → TReceiver → Outcome Callee
method_callee at f r = judge (ask 5 at (rule.rule_5_is_defined f.signature)) (method_called f r)

abbrev pub found_type : Found → Ty
found_type (found.Place p is_private) = place_type p
found_type (found.Value x) = type_of x.value

unfoldable pub dot_member : Environment → Here → Place → ℕ → Found → Outcome Callee
dot_member env here at name o = and_then (dot env here at name o) (found_callee env.aggregates at)

unfoldable pub dot_method : Here → Place → Found → NamedFunction → Outcome Callee
dot_method here at o f = and_then (dot_receiver here at o f) (method_callee at f)

unfoldable pub dotted : Environment → Here → Place → ℕ → Found → Option NamedFunction → Outcome Callee
dotted env here at name o None = dot_member env here at name o
dotted env here at name o (Some f) = dot_method here at o f

-- `x.name`
unfoldable pub dot_callee : Environment → Here → Place → ℕ → Found → Outcome Callee
dot_callee env here at name o = dotted env here at name o (function_in env (Some (found_type o)) name)

unfoldable pub arrow_member : Environment → Here → Place → ℕ → Operand → Outcome Callee
arrow_member env here at name x = and_then (arrow env here at name x) (found_callee env.aggregates at)

unfoldable pub arrow_method : Here → Place → Operand → NamedFunction → Outcome Callee
arrow_method here at x f = and_then (arrow_receiver here at x f) (method_callee at f)

unfoldable pub arrowed : Environment → Here → Place → ℕ → Operand → Option NamedFunction → Outcome Callee
arrowed env here at name x None = arrow_member env here at name x
arrowed env here at name x (Some f) = arrow_method here at x f

-- `x->name`
unfoldable pub arrow_callee : Environment → Here → Place → ℕ → Operand → Outcome Callee
arrow_callee env here at name x = arrowed env here at name x (function_in env (pointed (type_of x.value)) name)
