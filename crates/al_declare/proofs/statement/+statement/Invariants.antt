use Rattle.std.proofs.Common.{◌≡◌, ◌+◌, ◌*◌, drop}
use Rattle.al_declare.specs.Types.{each}
use Rattle.al_declare.specs.Statements.{stmt}
use Rattle.al_tree.specs.declared.statement.Stmt.{size-Stmt}
use Rattle.al_declare.proofs.statement.+statement.Given as goal

abbrev pub invariant-stmts-loop-s : goal.invariant-stmts-loop-s
invariant-stmts-loop-s l = each stmt l.list l.c l.fn.w ≡ each stmt (drop l.s-index l.list) l.c l.w

abbrev pub decreases-stmt : goal.decreases-stmt
decreases-stmt l = 8 * size-Stmt l.s.now

abbrev pub decreases-stmts : goal.decreases-stmts
decreases-stmts l = 8 * goal.size-stmts l + 1

abbrev pub decreases-scoped : goal.decreases-scoped
decreases-scoped l = 8 * goal.size-scoped l + 2

abbrev pub decreases-other : goal.decreases-other
decreases-other l = 8 * goal.size-other l + 1
