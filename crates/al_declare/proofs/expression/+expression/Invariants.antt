use Rattle.std.proofs.Common.{◌≡◌, drop}
use Rattle.al_declare.specs.Types.{each}
use Rattle.al_declare.specs.Expressions.{expr}
use Rattle.al_declare.proofs.expression.+expression.Given as goal

abbrev pub invariant-exprs-loop-e : goal.invariant-exprs-loop-e
invariant-exprs-loop-e l = each expr l.list l.c l.fn.w ≡ each expr (drop l.e-index l.list) l.c l.w
