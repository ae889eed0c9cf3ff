use Rattle.std.proofs.Common.{◌≡◌, ◌+◌, ◌*◌, drop}
use Rattle.al_scope.specs.Types.{each}
use Rattle.al_scope.specs.Expressions.{expr}
use Rattle.al_scope.proofs.expression.+expression.Given as goal

abbrev pub invariant-exprs-loop-e : goal.invariant-exprs-loop-e
invariant-exprs-loop-e l = each expr l.list l.c l.fn.w ≡ each expr (drop l.e-index l.list) l.c l.w
