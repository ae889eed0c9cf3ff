use Rattle.std.proofs.Common.{◌≡◌, ◌+◌, ◌*◌, max, drop}
use Rattle.std.specs.List.{flat_map}
use Rattle.al_tree.specs.declared.expression.Expr.{size-Expr}
use Rattle.al_type_stmt.specs.Iterators.{iterators, gathering}
use Rattle.al_type_stmt.proofs.iterators.+gather.Given as goal

abbrev pub invariant-gather_all-loop-part : goal.invariant-gather_all-loop-part
invariant-gather_all-loop-part l =
    gathering l.fn.met (flat_map (iterators l.env l.here) l.parts) ≡ gathering l.met (flat_map (iterators l.env l.here) (drop l.part-index l.parts))

abbrev pub decreases-gather : goal.decreases-gather
decreases-gather l = 8 * size-Expr l.e.now

abbrev pub decreases-gather_two : goal.decreases-gather_two
decreases-gather_two l = 8 * max (size-Expr l.a.now) (size-Expr l.b.now) + 1

abbrev pub decreases-gather_all : goal.decreases-gather_all
decreases-gather_all l = 8 * goal.size-gather_all l + 1

abbrev pub decreases-gather_call : goal.decreases-gather_call
decreases-gather_call l = 8 * max (size-Expr l.callee.now) (goal.size-gather_call l) + 2
