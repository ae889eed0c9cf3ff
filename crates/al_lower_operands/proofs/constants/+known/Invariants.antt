use Rattle.std.proofs.Common.{◌+◌, ◌*◌}
use Rattle.al_typed.specs.declared.expression.TExpr.{size-TExpr}
use Rattle.al_lower_operands.proofs.constants.+known.Given as goal

abbrev pub decreases-known : goal.decreases-known
decreases-known l = 8 * size-TExpr l.e.now

abbrev pub decreases-unary_known : goal.decreases-unary_known
decreases-unary_known l = 8 * size-TExpr l.of.now + 1

abbrev pub decreases-converted_known : goal.decreases-converted_known
decreases-converted_known l = 8 * size-TExpr l.of.now + 1
