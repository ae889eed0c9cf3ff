-- What nodes with parts give, once it is known what the parts are.
use Rattle.std.specs.Prelude.{ℕ, false, List, Option, Some, None}
use Rattle.al_base.specs.declared.place.Place.{Place}
use Rattle.al_rules.specs.Outcome.{Outcome, Good, Bad, ask, and_then}
use Rattle.al_tree.specs.declared.expression.UnaryOp.{UnaryOp as Prefix}
use Rattle.al_tree.specs.declared.expression.UnaryOp.TheVariants as prefix
use Rattle.al_tree.specs.declared.expression.PostfixOp.{PostfixOp}
use Rattle.al_tree.specs.declared.expression.PostfixOp.TheVariants as postfix
use Rattle.al_tree.specs.declared.expression.BinaryOp.{BinaryOp}
use Rattle.al_tree.specs.declared.expression.Access.{Access}
use Rattle.al_tree.specs.declared.expression.Access.TheVariants as access
use Rattle.al_typed.specs.declared.program.Aggregate.{Aggregate}
use Rattle.al_typed.specs.declared.ty.Ty.{Ty}
use Rattle.al_typed.specs.declared.expression.UnaryOp.TheVariants as unary_op
use Rattle.al_typed.specs.declared.expression.StepOp.TheVariants as step_op
use Rattle.al_typed.specs.declared.expression.TExpr.{TExpr}
use Rattle.al_typed.specs.declared.expression.TPlace.{TPlace}
use Rattle.al_environment.specs.declared.environment.Environment.{Environment}
use Rattle.al_environment.specs.declared.environment.Here.{Here}
use Rattle.al_operands.specs.declared.operand.Operand.{Operand}
use Rattle.al_operators.specs.Operators.{signed, complement, negation, cast, received, can_receive, can_send, size_of_type}
use Rattle.al_places.specs.Places.{indirection, updated, stepped, zeroed}
use Rattle.al_type_nodes.specs.declared.found.Found.{Found}
use Rattle.al_type_nodes.specs.Uses.{value, place_of, operand, placed, addressed}
use Rattle.al_type_nodes.specs.Members.{dot, arrow}
use Rattle.al_type_calls.specs.declared.callee.Callee.{Callee}
use Rattle.al_type_calls.specs.Callees.{dot_callee, arrow_callee}

abbrev pub gives : Outcome TExpr → Outcome Found
gives o = and_then o (λ e. Good (value e))

abbrev pub is_at : Outcome TPlace → Outcome Found
is_at o = and_then o (λ p. Good (place_of p))

-- ---- operators on one operand: what it is, and where it stands

unfoldable pub unary : List Aggregate → Place → Prefix → Place → Found → Outcome Found
unary rows at prefix.Plus of f = gives (and_then (operand rows of f) (signed at unary_op.Plus))
unary rows at prefix.Minus of f = gives (and_then (operand rows of f) (signed at unary_op.Minus))
unary rows at prefix.Not of f = gives (and_then (operand rows of f) (negation at))
unary rows at prefix.Complement of f = gives (and_then (operand rows of f) (complement at unary_op.Complement))
unary rows at prefix.Indirect of f = is_at (and_then (operand rows of f) (indirection at))
unary rows at prefix.Address of f = gives (addressed at f)
unary rows at prefix.Increment of f = gives (and_then (placed at f) (stepped rows at step_op.PreIncrement))
unary rows at prefix.Decrement of f = gives (and_then (placed at f) (stepped rows at step_op.PreDecrement))
unary rows at prefix.Receive of f = gives (and_then (operand rows of f) (received at))
unary rows at prefix.CanReceive of f = gives (and_then (operand rows of f) (can_receive at))
unary rows at prefix.Zerox of f = gives (and_then (placed at f) (zeroed rows at))

unfoldable pub postfix_found : List Aggregate → Place → PostfixOp → Place → Found → Outcome Found
postfix_found rows at postfix.Increment of f = gives (and_then (placed at f) (stepped rows at step_op.PostIncrement))
postfix_found rows at postfix.Decrement of f = gives (and_then (placed at f) (stepped rows at step_op.PostDecrement))
postfix_found rows at postfix.CanSend of f = gives (and_then (operand rows of f) (can_send at))

-- ---- written types. 1. A name that is used stands for a type where it stands.

unfoldable pub cast_of : List Aggregate → Place → Ty → Place → Found → Outcome TExpr
cast_of rows at t of f = and_then (operand rows of f) (cast at t)

unfoldable pub cast_to : List Aggregate → Place → Option Ty → Place → Found → Outcome TExpr
cast_to rows at None of f = Bad (ask 1 at false)
cast_to rows at (Some t) of f = cast_of rows at t of f

unfoldable pub type_sized : List Aggregate → Place → Option Ty → Outcome TExpr
type_sized rows at None = Bad (ask 1 at false)
type_sized rows at (Some t) = size_of_type rows at t

-- ---- members

unfoldable pub member_found : Environment → Here → Place → Access → ℕ → Place → Found → Outcome Found
member_found env here at access.Dot name of f = dot env here at name f
member_found env here at access.Arrow name of f = and_then (operand env.aggregates of f) (arrow env here at name)

unfoldable pub member_callee : Environment → Here → Place → Access → ℕ → Place → Found → Outcome Callee
member_callee env here at access.Dot name of f = dot_callee env here at name f
member_callee env here at access.Arrow name of f = and_then (operand env.aggregates of f) (arrow_callee env here at name)

-- ---- `op=`

unfoldable pub compound : List Aggregate → Place → BinaryOp → Found → Operand → Outcome TExpr
compound rows at how f x = and_then (placed at f) (λ p. updated rows at how p x)
