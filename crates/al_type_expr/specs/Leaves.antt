-- Expressions without parts.
use Rattle.std.specs.Prelude.{ℕ, ◌==◌, false, if◌then◌else◌, Option, Some, None}
use Rattle.al_base.specs.Arith.{bits_in}
use Rattle.al_base.specs.declared.place.Place.{Place}
use Rattle.al_rules.specs.Outcome.{Outcome, Good, Bad, ask, judge}
use Rattle.al_lex.specs.Values.{kind_of_value}
use Rattle.al_typed.specs.declared.ty.Ty.TheVariants as ty
use Rattle.al_typed.specs.declared.expression.TExpr.{TExpr}
use Rattle.al_typed.specs.declared.expression.TExpr.TheVariants as expr
use Rattle.al_typed.specs.declared.expression.TPlace.{TPlace}
use Rattle.al_typed.specs.declared.expression.TTarget.{TTarget}
use Rattle.al_typed.specs.declared.expression.TTarget.TheVariants as target
use Rattle.al_typed.specs.Types.{int, byte_pointer, void_pointer}
use Rattle.al_typed.specs.Typed.{place_type, target_type}
use Rattle.al_convert.specs.declared.literal.Literal.{Literal}
use Rattle.al_convert.specs.declared.literal.Literal.TheVariants as literal
use Rattle.al_operands.specs.declared.operand.Operand.{Operand}
use Rattle.al_operands.specs.Operands.{converted}
use Rattle.al_operands.specs.Rules as rule
use Rattle.al_type_nodes.specs.declared.found.Found.{Found}
use Rattle.al_type_nodes.specs.declared.found.Found.TheVariants as found
use Rattle.al_type_nodes.specs.Uses.{written_as, value}

-- the number 0 is the constant 0, and no other value is
abbrev pub zero : ℕ → Literal
zero n = if n == 0 then literal.Zero else literal.Other

-- a number in a text has 64 bits
unfoldable pub number : ℕ → Found
number n = found.Value (written_as (zero n) (expr.Constant (ty.Integer (kind_of_value n)) (bits_in 64 n)))

-- and a character 8
unfoldable pub character : ℕ → Found
character n = value (expr.Constant int (bits_in 8 n))

-- a string constant, by the number of its block
unfoldable pub text_found : Place → Option ℕ → Outcome Found
text_found at None = Bad (ask 36 at false)
text_found at (Some n) = Good (value (expr.Text byte_pointer n))

unfoldable pub nil_found : Place → Found
nil_found at = found.Value (written_as (literal.Nil at) (expr.Nil void_pointer))

-- 42. An iterator stands in an expression statement, in no iterator's bound.
unfoldable pub iterator_found : Place → Option ℕ → Outcome Found
iterator_found at None = Bad (ask 42 at false)
iterator_found at (Some n) = Good (value (expr.Iterator int n))

-- ---- targets

unfoldable pub whole_target : Place → TPlace → Outcome TTarget
whole_target at p = judge (ask 29 at (rule.rule_29_is_no_array (place_type p))) (target.Into p)

-- What stands on the left of `=`, or as a part of a tuple there, is a place. 28. The left of an assignment, where it is no
-- tuple expression, is a place. 40. Each part of a tuple on the left of `=` is a place, a tuple of such, or nil.
unfoldable pub place_target : ℕ → Place → Found → Outcome TTarget
place_target n at (found.Place p is_private) = whole_target at p
place_target n at (found.Value x) = Bad (ask n at false)

abbrev pub assign_node : TTarget → TExpr → TExpr
assign_node t e = expr.Assign (target_type t) t e

abbrev pub assign : TTarget → TExpr → TExpr
assign t e = assign_node t (converted (target_type t) e)

-- 33. What is assigned converts.
unfoldable pub assigned_to : Place → TTarget → Operand → Outcome TExpr
assigned_to at t x = judge (ask 33 at (rule.rule_33_converts x (target_type t))) (assign t x.value)
