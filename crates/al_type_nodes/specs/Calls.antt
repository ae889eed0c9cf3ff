-- What is called, and the object before the name of a function of an adt.
use Rattle.std.specs.Prelude.{List, ◌++◌, Option, option_and_then}
use Rattle.al_base.specs.declared.place.Place.{Place}
use Rattle.al_rules.specs.Outcome.{Outcome, Good, ask, judge, and_then}
use Rattle.al_typed.specs.declared.ty.Ty.{Ty}
use Rattle.al_typed.specs.declared.expression.TExpr.{TExpr}
use Rattle.al_typed.specs.declared.expression.TPlace.{TPlace}
use Rattle.al_typed.specs.declared.expression.TReceiver.{TReceiver}
use Rattle.al_typed.specs.declared.expression.TReceiver.TheVariants as receiver
use Rattle.al_convert.specs.Same.{pointed, returns_of, parameters_of}
use Rattle.al_environment.specs.declared.environment.Here.{Here}
use Rattle.al_environment.specs.declared.environment.NamedFunction.{NamedFunction}
use Rattle.al_operands.specs.declared.operand.Operand.{Operand}
use Rattle.al_operands.specs.Operands.{plain}
use Rattle.al_type_nodes.specs.declared.found.Found.{Found}
use Rattle.al_type_nodes.specs.declared.found.Found.TheVariants as found
use Rattle.al_type_nodes.specs.Rules as rule

-- ---- objects

abbrev pub place_object : TPlace → NamedFunction → TReceiver
place_object p f = receiver.Place p f.path f.passed

unfoldable pub place_receiver : Here → Place → TPlace → NamedFunction → Outcome TReceiver
place_receiver here at p f = judge (ask 10 at (rule.rule_10_is_open here f.interns)) (place_object p f)

abbrev pub value_object : TExpr → NamedFunction → TReceiver
value_object e f = receiver.Value e f.path f.passed

-- a value that may be the object of a function
unfoldable pub object : Here → Place → TExpr → NamedFunction → Outcome TExpr
object here at e f =
    judge (ask 10 at (rule.rule_10_is_open here f.interns) ++ (ask 57 at (rule.rule_57_has_place f.passed) ++ ask 58 at (rule.rule_58_is_object e))) e

unfoldable pub value_receiver : Here → Place → TExpr → NamedFunction → Outcome TReceiver
value_receiver here at e f = and_then (object here at e f) (λ e. Good (value_object e f))

abbrev pub pointer_object : TExpr → NamedFunction → TReceiver
pointer_object e f = receiver.Pointer e f.path f.passed

unfoldable pub pointer_receiver : Here → Place → TExpr → NamedFunction → Outcome TReceiver
pointer_receiver here at e f = judge (ask 10 at (rule.rule_10_is_open here f.interns)) (pointer_object e f)

unfoldable pub operand_receiver : Here → Place → Operand → NamedFunction → Outcome TReceiver
operand_receiver here at x f = and_then (plain x) (λ e. value_receiver here at e f)

-- `x.f(..)`
unfoldable pub dot_receiver : Here → Place → Found → NamedFunction → Outcome TReceiver
dot_receiver here at (found.Place p is_private) f = place_receiver here at p f
dot_receiver here at (found.Value x) f = operand_receiver here at x f

-- `x->f(..)`
unfoldable pub arrow_receiver : Here → Place → Operand → NamedFunction → Outcome TReceiver
arrow_receiver here at x f = and_then (plain x) (λ e. pointer_receiver here at e f)

-- ---- calls through pointers

-- what the function that a pointer points to returns and takes
abbrev pub returns_behind : Ty → Option Ty
returns_behind t = option_and_then returns_of (pointed t)

abbrev pub parameters_behind : Ty → Option (List Ty)
parameters_behind t = option_and_then parameters_of (pointed t)
