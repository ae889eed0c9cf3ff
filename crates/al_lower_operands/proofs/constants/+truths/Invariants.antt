use Rattle.std.proofs.Common.{◌+◌, ◌*◌}
use Rattle.al_typed.specs.declared.expression.TExpr.{size-TExpr}
use Rattle.al_lower_operands.proofs.constants.+truths.Given as goal

abbrev pub decreases-is_truth : goal.decreases-is_truth
decreases-is_truth l = 8 * size-TExpr l.e.now

abbrev pub decreases-unary_is_truth : goal.decreases-unary_is_truth
decreases-unary_is_truth l = 8 * size-TExpr l.of.now + 1

abbrev pub decreases-converted_is_truth : goal.decreases-converted_is_truth
decreases-converted_is_truth l = 8 * size-TExpr l.of.now + 1
