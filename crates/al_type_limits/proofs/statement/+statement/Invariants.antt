use Rattle.std.proofs.Common.{◌≡◌, ◌+◌, ◌*◌, drop}
use Rattle.al_tree.specs.declared.statement.Stmt.{size-Stmt}
use Rattle.al_type_limits.specs.Expressions.{each}
use Rattle.al_type_limits.specs.Statements.{stmt}
use Rattle.al_type_limits.proofs.statement.+statement.Given as goal

abbrev pub invariant-stmts-loop-s : goal.invariant-stmts-loop-s
invariant-stmts-loop-s l = each (stmt l.names) l.list l.fn.sum ≡ each (stmt l.names) (drop l.s-index l.list) l.sum

abbrev pub decreases-stmt : goal.decreases-stmt
decreases-stmt l = 8 * size-Stmt l.s.now

abbrev pub decreases-stmts : goal.decreases-stmts
decreases-stmts l = 8 * goal.size-stmts l + 1

abbrev pub decreases-other : goal.decreases-other
decreases-other l = 8 * goal.size-other l + 1
