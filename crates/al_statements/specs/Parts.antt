-- What statements make of their typed parts.
use Rattle.std.specs.Prelude.{ℕ, Bool, true, false, if◌then◌else◌, List, Option, Some, None}
use Rattle.al_base.specs.declared.place.Place.{Place}
use Rattle.al_base.specs.declared.arith.Kind.TheVariants as kind
use Rattle.al_rules.specs.Outcome.{Outcome, Good, ask, judge, and_then}
use Rattle.al_typed.specs.declared.program.Aggregate.{Aggregate}
use Rattle.al_typed.specs.declared.ty.Ty.{Ty}
use Rattle.al_typed.specs.declared.expression.TExpr.{TExpr, Call', CallPointer', Print', Terminate'}
use Rattle.al_typed.specs.declared.expression.TPlace.{TPlace}
use Rattle.al_typed.specs.declared.statement.TBounds.{TBounds}
use Rattle.al_typed.specs.declared.statement.TStmt.{TStmt}
use Rattle.al_typed.specs.declared.statement.TStmt.TheVariants as stmt
use Rattle.al_typed.specs.Typed.{type_of, place_type}
use Rattle.al_operands.specs.declared.operand.Operand.{Operand}
use Rattle.al_operands.specs.Operands.{converted, in_kind, promoted_kind, plain, plains, taken}
use Rattle.al_type_nodes.specs.declared.found.Found.{Found}
use Rattle.al_type_nodes.specs.declared.found.Found.TheVariants as found
use Rattle.al_type_nodes.specs.Uses.{operand}
use Rattle.al_statements.specs.Rules as rule

-- ---- declarations, iterators

-- the value that a local of a type starts with
unfoldable pub initialized : Place → Ty → Operand → Outcome TExpr
initialized at t x = judge (ask 23 at (rule.rule_23_initializes x t)) (converted t x.value)

-- the bounds of an iterator, as ints
unfoldable pub bounds_of : TExpr → TExpr → TBounds
bounds_of a b = record { from = in_kind kind.Int a; to = in_kind kind.Int b }

unfoldable pub bounded : Place → TExpr → TExpr → Outcome TBounds
bounded at a b = judge (ask 42 at (rule.rule_42_has_integers (type_of a) (type_of b))) (bounds_of a b)

unfoldable pub bounds : Place → Operand → Operand → Outcome TBounds
bounds at x y = and_then (plains x y) (λ p. bounded at p.0 p.1)

-- ---- storage

unfoldable pub allocated : List Aggregate → Place → TPlace → Outcome TPlace
allocated rows at p = judge (ask 45 at (rule.rule_45_allocates rows (place_type p))) p

unfoldable pub given_value : Place → TExpr → Outcome TExpr
given_value at e = judge (ask 46 at (rule.rule_46_gives_back (type_of e))) e

unfoldable pub given_back : Place → Operand → Outcome TExpr
given_back at x = and_then (plain x) (given_value at)

-- ---- returns

-- 47. return has a value that converts, and none in a void function.
unfoldable pub returned_nothing : Place → Ty → Outcome (Option TExpr)
returned_nothing at returns = judge (ask 47 at (rule.rule_47_is_void returns)) None

unfoldable pub returned_value : Place → Ty → Operand → Outcome (Option TExpr)
returned_value at returns x = and_then (taken 47 at returns x) (λ e. Good (Some e))

unfoldable pub returned : Place → Ty → Option Operand → Outcome (Option TExpr)
returned at returns None = returned_nothing at returns
returned at returns (Some x) = returned_value at returns x

-- 48. become of another value than a call has the rule of return.
unfoldable pub became_value : ℕ → Place → Ty → Operand → Outcome TStmt
became_value line at returns x = and_then (taken 48 at returns x) (λ e. Good (stmt.Return line (Some e)))

unfoldable pub became_call : ℕ → Place → Ty → TExpr → Outcome TStmt
became_call line at returns call = judge (ask 48 at (rule.rule_48_goes_on returns call)) (stmt.Become line call)

abbrev pub is_any_call : TExpr → Bool
is_any_call (Call' _ _ _ _ _) = true
is_any_call (CallPointer' _ _ _ _ _) = true
is_any_call (Print' _ _ _ _) = true
is_any_call (Terminate' _ _ _) = true
is_any_call _ = false

abbrev pub became_found : List Aggregate → ℕ → Place → Ty → Place → Found → Outcome TStmt
became_found rows line at returns value_at f = and_then (operand rows value_at f) (became_value line at returns)

unfoldable pub became_operand : List Aggregate → ℕ → Place → Ty → Place → Operand → Outcome TStmt
became_operand rows line at returns value_at x =
    if is_any_call x.value then became_call line at returns x.value else became_found rows line at returns value_at (found.Value x)

-- `become value;` by the line of its first token
unfoldable pub became : List Aggregate → ℕ → Place → Ty → Place → Found → Outcome TStmt
became rows line at returns value_at (found.Place p is_private) = became_found rows line at returns value_at (found.Place p is_private)
became rows line at returns value_at (found.Value x) = became_operand rows line at returns value_at x

-- ---- starts

-- a call after proc or task
unfoldable pub started : Place → TExpr → Outcome TExpr
started at call = judge (ask 55 at (rule.rule_55_starts call)) call

-- ---- switches

-- the value of a switch in its promoted type
unfoldable pub switched_on : TExpr → TExpr
switched_on e = in_kind (promoted_kind (type_of e)) e

unfoldable pub switched_value : Place → TExpr → Outcome TExpr
switched_value at e = judge (ask 56 at (rule.rule_56_is_integer (type_of e))) (switched_on e)

unfoldable pub switched : Place → Operand → Outcome TExpr
switched at x = and_then (plain x) (switched_value at)
