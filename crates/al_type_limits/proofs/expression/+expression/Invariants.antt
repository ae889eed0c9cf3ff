use Rattle.std.proofs.Common.{◌≡◌, ◌+◌, ◌*◌, max, drop}
use Rattle.al_tree.specs.declared.expression.Expr.{size-Expr}
use Rattle.al_type_limits.specs.Expressions.{each, expr}
use Rattle.al_type_limits.proofs.expression.+expression.Given as goal

abbrev pub invariant-exprs-loop-e : goal.invariant-exprs-loop-e
invariant-exprs-loop-e l = each (expr l.names) l.list l.fn.sum ≡ each (expr l.names) (drop l.e-index l.list) l.sum

abbrev pub decreases-expr : goal.decreases-expr
decreases-expr l = 8 * size-Expr l.e.now

abbrev pub decreases-exprs : goal.decreases-exprs
decreases-exprs l = 8 * goal.size-exprs l + 1

abbrev pub decreases-two : goal.decreases-two
decreases-two l = 8 * max (size-Expr l.a.now) (size-Expr l.b.now) + 1
