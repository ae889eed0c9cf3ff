-- Members of objects.
use Rattle.std.specs.Prelude.{ℕ, false, ◌++◌, Option, Some, None, option_and_then}
use Rattle.al_base.specs.declared.place.Place.{Place}
use Rattle.al_rules.specs.Outcome.{Outcome, Good, Bad, ask, judge, and_then}
use Rattle.al_typed.specs.declared.ty.Ty.{Ty, out-Ty}
use Rattle.al_typed.specs.declared.ty.Ty.TheOpen.{Ty-F}
use Rattle.al_typed.specs.declared.expression.TExpr.{TExpr}
use Rattle.al_typed.specs.declared.expression.TExpr.TheVariants as expr
use Rattle.al_typed.specs.declared.expression.TPlace.{TPlace}
use Rattle.al_typed.specs.declared.expression.TPlace.TheVariants as place
use Rattle.al_typed.specs.Typed.{type_of, place_type}
use Rattle.al_convert.specs.Same.{pointed}
use Rattle.al_environment.specs.declared.environment.Environment.{Environment}
use Rattle.al_environment.specs.declared.environment.Here.{Here}
use Rattle.al_environment.specs.declared.environment.NamedMember.{NamedMember}
use Rattle.al_environment.specs.declared.environment.NamedFunction.{NamedFunction}
use Rattle.al_environment.specs.Lookups.{member_named, function_named}
use Rattle.al_operands.specs.declared.operand.Operand.{Operand}
use Rattle.al_operands.specs.Operands.{plain}
use Rattle.al_type_nodes.specs.declared.found.Found.{Found}
use Rattle.al_type_nodes.specs.declared.found.Found.TheVariants as found
use Rattle.al_type_nodes.specs.Rules as rule
use Rattle.al_type_nodes.specs.Uses.{value, place_of}

-- ---- what a type has

abbrev pub aggregate_at : Ty-F Ty → Option ℕ
aggregate_at (Ty-F.Aggregate number) = Some number
aggregate_at _ = None

unfoldable pub aggregate_of : Ty → Option ℕ
aggregate_of t = aggregate_at (out-Ty t)

-- the data member, and the function, of that name that an aggregate has
abbrev pub member_in : Environment → Option Ty → ℕ → Option NamedMember
member_in env None name = None
member_in env (Some t) name = option_and_then (λ n. member_named env n name) (aggregate_of t)

abbrev pub function_in : Environment → Option Ty → ℕ → Option NamedFunction
function_in env None name = None
function_in env (Some t) name = option_and_then (λ n. function_named env n name) (aggregate_of t)

-- 9. A function of an adt is only called. 32. `.` has an aggr, union or adt, `->` a pointer to one; the member is there.
abbrev pub missing_rule : Option NamedFunction → ℕ
missing_rule None = 32
missing_rule (Some f) = 9

-- ---- a member that is read or is a place

-- of a place
abbrev pub place_member : TPlace → NamedMember → TPlace
place_member p m = place.Member m.ty p m.path

unfoldable pub member_of_place : Here → Place → TPlace → NamedMember → Outcome Found
member_of_place here at p m = judge (ask 10 at (rule.rule_10_is_open here m.interns)) (place_of (place_member p m))

-- of a value
abbrev pub value_member : TExpr → NamedMember → TExpr
value_member e m = expr.MemberOf m.ty e m.path

unfoldable pub whole : Here → Place → TExpr → NamedMember → Outcome TExpr
whole here at e m = judge (ask 10 at (rule.rule_10_is_open here m.interns) ++ ask 58 at (rule.rule_58_is_read e m.ty)) e

unfoldable pub member_of_value : Here → Place → TExpr → NamedMember → Outcome Found
member_of_value here at e m = and_then (whole here at e m) (λ e. Good (value (value_member e m)))

-- through a pointer
abbrev pub pointed_member : TExpr → NamedMember → TPlace
pointed_member e m = place.PointedMember m.ty e m.path

unfoldable pub member_behind : Here → Place → TExpr → NamedMember → Outcome Found
member_behind here at e m = judge (ask 10 at (rule.rule_10_is_open here m.interns)) (place_of (pointed_member e m))

unfoldable pub place_dot : Here → Place → TPlace → Option NamedMember → Option NamedFunction → Outcome Found
place_dot here at p None f = Bad (ask (missing_rule f) at false)
place_dot here at p (Some m) f = member_of_place here at p m

unfoldable pub value_dot : Here → Place → TExpr → Option NamedMember → Option NamedFunction → Outcome Found
value_dot here at e None f = Bad (ask (missing_rule f) at false)
value_dot here at e (Some m) f = member_of_value here at e m

unfoldable pub value_arrow : Here → Place → TExpr → Option NamedMember → Option NamedFunction → Outcome Found
value_arrow here at e None f = Bad (ask (missing_rule f) at false)
value_arrow here at e (Some m) f = member_behind here at e m

-- `x.name`
abbrev pub dot_place : Environment → Here → Place → ℕ → TPlace → Outcome Found
dot_place env here at name p = place_dot here at p (member_in env (Some (place_type p)) name) (function_in env (Some (place_type p)) name)

abbrev pub dot_value : Environment → Here → Place → ℕ → TExpr → Outcome Found
dot_value env here at name e = value_dot here at e (member_in env (Some (type_of e)) name) (function_in env (Some (type_of e)) name)

unfoldable pub dot_operand : Environment → Here → Place → ℕ → Operand → Outcome Found
dot_operand env here at name x = and_then (plain x) (dot_value env here at name)

unfoldable pub dot : Environment → Here → Place → ℕ → Found → Outcome Found
dot env here at name (found.Place p is_private) = dot_place env here at name p
dot env here at name (found.Value x) = dot_operand env here at name x

-- `x->name`
abbrev pub arrow_value : Environment → Here → Place → ℕ → TExpr → Outcome Found
arrow_value env here at name e = value_arrow here at e (member_in env (pointed (type_of e)) name) (function_in env (pointed (type_of e)) name)

unfoldable pub arrow : Environment → Here → Place → ℕ → Operand → Outcome Found
arrow env here at name x = and_then (plain x) (arrow_value env here at name)
