use Rattle.std.proofs.Common.{◌≡◌, ◌+◌, ◌*◌, ◌++◌, max, drop}
use denote.Param.Weighed.{most}
use Rattle.al_typed.specs.declared.expression.TExpr.{TExpr, size-TExpr}
use Rattle.al_typed.specs.declared.expression.TPlace.{size-TPlace}
use Rattle.al_lower_operands.specs.Rows.{row_of, aimed_of}
use Rattle.al_lower_base.specs.Spots.{spot_of}
use Rattle.al_typed.specs.declared.expression.TTarget.{size-TTarget}
use Rattle.al_lower_expr.proofs.+expr.Given as goal

abbrev pub decreases-expr::value : goal.decreases-expr::value
decreases-expr::value l = 32 * size-TExpr l.e.now

abbrev pub decreases-expr::operand : goal.decreases-expr::operand
decreases-expr::operand l = 32 * size-TExpr l.e.now + 1

abbrev pub decreases-expr::dropped : goal.decreases-expr::dropped
decreases-expr::dropped l = 32 * size-TExpr l.e.now + 2

abbrev pub decreases-expr::value_pointer : goal.decreases-expr::value_pointer
decreases-expr::value_pointer l = 32 * size-TExpr l.e.now + 3

abbrev pub decreases-expr::first : goal.decreases-expr::first
decreases-expr::first l = 32 * size-TExpr l.e.now + 2

abbrev pub decreases-expr::effect : goal.decreases-expr::effect
decreases-expr::effect l = 32 * size-TExpr l.e.now + 4

abbrev pub decreases-expr::unless : goal.decreases-expr::unless
decreases-expr::unless l = 32 * size-TExpr l.e.now + 4

abbrev pub decreases-expr::pointer : goal.decreases-expr::pointer
decreases-expr::pointer l = 32 * size-TExpr l.e.now + 4

abbrev pub decreases-expr::place : goal.decreases-expr::place
decreases-expr::place l = 32 * size-TPlace l.p.now

abbrev pub decreases-expr::row_values : goal.decreases-expr::row_values
decreases-expr::row_values l = 32 * goal.size-expr::row_values l + 4

abbrev pub decreases-expr::row_effects : goal.decreases-expr::row_effects
decreases-expr::row_effects l = 32 * goal.size-expr::row_effects l + 5

abbrev pub decreases-forms::used : goal.decreases-forms::used
decreases-forms::used l = 32 * size-TExpr l.e.now + 2

abbrev pub decreases-forms::taken : goal.decreases-forms::taken
decreases-forms::taken l = 32 * size-TExpr l.e.now + 1

abbrev pub decreases-forms::joined : goal.decreases-forms::joined
decreases-forms::joined l = 32 * max (size-TExpr l.left.now) (size-TExpr l.right.now) + 3

abbrev pub decreases-forms::found : goal.decreases-forms::found
decreases-forms::found l = 32 * size-TPlace l.x.now + 1

abbrev pub decreases-forms::changed_value : goal.decreases-forms::changed_value
decreases-forms::changed_value l = 32 * size-TExpr l.of.now + 3

abbrev pub decreases-forms::move_value : goal.decreases-forms::move_value
decreases-forms::move_value l = 32 * max (size-TExpr l.pointer.now) (size-TExpr l.count.now) + 4

abbrev pub decreases-forms::tuple_value : goal.decreases-forms::tuple_value
decreases-forms::tuple_value l = 32 * (most (λ (x : TExpr). size-TExpr x) l.parts.now) + 6

abbrev pub decreases-forms::sequence_value : goal.decreases-forms::sequence_value
decreases-forms::sequence_value l = 32 * max (most (λ (x : TExpr). size-TExpr x) l.before.now) (size-TExpr l.last.now) + 6

abbrev pub decreases-forms::sequence_effect : goal.decreases-forms::sequence_effect
decreases-forms::sequence_effect l = 32 * max (most (λ (x : TExpr). size-TExpr x) l.before.now) (size-TExpr l.last.now) + 7

abbrev pub decreases-forms::indexed : goal.decreases-forms::indexed
decreases-forms::indexed l = 32 * max (size-TExpr l.base.now) (size-TExpr l.index.now) + 6

abbrev pub decreases-forms::element : goal.decreases-forms::element
decreases-forms::element l = 32 * max (size-TExpr l.base.now) (size-TExpr l.index.now) + 7

abbrev pub decreases-operators::unary_value : goal.decreases-operators::unary_value
decreases-operators::unary_value l = 32 * size-TExpr l.of.now + 3

abbrev pub decreases-operators::binary_value : goal.decreases-operators::binary_value
decreases-operators::binary_value l = 32 * max (size-TExpr l.left.now) (size-TExpr l.right.now) + 4

abbrev pub decreases-operators::truth_value : goal.decreases-operators::truth_value
decreases-operators::truth_value l = 32 * size-TExpr l.e.now + 5

abbrev pub decreases-operators::logical_value : goal.decreases-operators::logical_value
decreases-operators::logical_value l = 32 * max (size-TExpr l.left.now) (size-TExpr l.right.now) + 6

abbrev pub decreases-operators::logical_unless : goal.decreases-operators::logical_unless
decreases-operators::logical_unless l = 32 * max (size-TExpr l.left.now) (size-TExpr l.right.now) + 6

abbrev pub invariant-expr::row_values-loop-e : goal.invariant-expr::row_values-loop-e
invariant-expr::row_values-loop-e l =
    l.code ++ (row_of (spot_of l.s) (drop l.e-index l.row)).values l.at ≡ l.fn.code ++ (row_of (spot_of l.s) l.row).values l.to

abbrev pub invariant-expr::row_effects-loop-e : goal.invariant-expr::row_effects-loop-e
invariant-expr::row_effects-loop-e l =
    l.code ++ (row_of (spot_of l.s) (drop l.e-index l.row)).effects l.to ≡ l.fn.code ++ (row_of (spot_of l.s) l.row).effects l.to

abbrev pub invariant-actions::targets-loop-x : goal.invariant-actions::targets-loop-x
invariant-actions::targets-loop-x l =
    l.code ++ (aimed_of (spot_of l.s) (drop l.x-index l.xs)).code l.at ≡ l.fn.code ++ (aimed_of (spot_of l.s) l.xs).code l.to

abbrev pub decreases-actions::target : goal.decreases-actions::target
decreases-actions::target l = 32 * size-TTarget l.x.now

abbrev pub decreases-actions::targets : goal.decreases-actions::targets
decreases-actions::targets l = 32 * goal.size-actions::targets l + 4

abbrev pub decreases-actions::store : goal.decreases-actions::store
decreases-actions::store l = 32 * size-TExpr l.e.now + 4

abbrev pub decreases-actions::assign_one : goal.decreases-actions::assign_one
decreases-actions::assign_one l = 32 * max (size-TPlace l.x.now) (size-TExpr l.e.now) + 5

abbrev pub decreases-actions::assign_parts : goal.decreases-actions::assign_parts
decreases-actions::assign_parts l = 32 * max (size-TTarget l.x.now) (size-TExpr l.e.now) + 5

abbrev pub decreases-actions::assign : goal.decreases-actions::assign
decreases-actions::assign l = 32 * max (size-TTarget l.x.now) (size-TExpr l.e.now) + 6

abbrev pub decreases-actions::assigns : goal.decreases-actions::assigns
decreases-actions::assigns l = 32 * max (size-TTarget l.x.now) (size-TExpr l.e.now) + 7

abbrev pub decreases-actions::change : goal.decreases-actions::change
decreases-actions::change l = 32 * size-TExpr l.e.now + 3

abbrev pub decreases-actions::update_at : goal.decreases-actions::update_at
decreases-actions::update_at l = 32 * size-TExpr l.e.now + 4

abbrev pub decreases-actions::update : goal.decreases-actions::update
decreases-actions::update l = 32 * max (size-TPlace l.x.now) (size-TExpr l.e.now) + 5

abbrev pub decreases-actions::stepped : goal.decreases-actions::stepped
decreases-actions::stepped l = 32 * size-TPlace l.x.now + 1

abbrev pub decreases-calls::received_pointed : goal.decreases-calls::received_pointed
decreases-calls::received_pointed l = 32 * size-TExpr l.e.now + 5

abbrev pub decreases-calls::received_value : goal.decreases-calls::received_value
decreases-calls::received_value l = 32 * size-TExpr l.e.now + 5

abbrev pub decreases-calls::received : goal.decreases-calls::received
decreases-calls::received l = 32 * goal.size-calls::received l

abbrev pub decreases-calls::object : goal.decreases-calls::object
decreases-calls::object l = 32 * goal.size-calls::object l + 1

abbrev pub decreases-calls::arguments : goal.decreases-calls::arguments
decreases-calls::arguments l = 32 * max (goal.size-calls::arguments l) (most (λ (x : TExpr). size-TExpr x) l.arguments.now) + 8

abbrev pub decreases-calls::call : goal.decreases-calls::call
decreases-calls::call l = 32 * max (goal.size-calls::call l) (most (λ (x : TExpr). size-TExpr x) l.given.now) + 9

abbrev pub decreases-calls::call_pointer : goal.decreases-calls::call_pointer
decreases-calls::call_pointer l = 32 * max (size-TExpr l.e.now) (most (λ (x : TExpr). size-TExpr x) l.given.now) + 8

abbrev pub decreases-calls::print_value : goal.decreases-calls::print_value
decreases-calls::print_value l = 32 * most (λ (x : TExpr). size-TExpr x) l.given.now + 6
