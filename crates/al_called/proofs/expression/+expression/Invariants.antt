use Rattle.std.proofs.Common.{◌≡◌, ◌+◌, ◌*◌, max, drop}
use Rattle.al_tree.specs.declared.expression.Expr.{size-Expr}
use Rattle.al_called.specs.Expressions.{each, expr}
use Rattle.al_called.proofs.expression.+expression.Given as goal

abbrev pub invariant-exprs-loop-e : goal.invariant-exprs-loop-e
invariant-exprs-loop-e l = each (expr l.names) l.list l.fn.faults ≡ each (expr l.names) (drop l.e-index l.list) l.faults

abbrev pub decreases-inside : goal.decreases-inside
decreases-inside l = 8 * size-Expr l.e.now

abbrev pub decreases-expr : goal.decreases-expr
decreases-expr l = 8 * size-Expr l.e.now + 1

abbrev pub decreases-exprs : goal.decreases-exprs
decreases-exprs l = 8 * goal.size-exprs l + 2

abbrev pub decreases-two : goal.decreases-two
decreases-two l = 8 * max (size-Expr l.a.now) (size-Expr l.b.now) + 2
