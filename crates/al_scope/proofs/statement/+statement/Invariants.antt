use Rattle.std.proofs.Common.{◌≡◌, ◌+◌, ◌*◌, drop}
use Rattle.al_scope.specs.Types.{each}
use Rattle.al_scope.specs.Statements.{stmt, par_branch}
use Rattle.al_tree.specs.declared.statement.Stmt.{size-Stmt}
use Rattle.al_scope.proofs.statement.+statement.Given as goal

abbrev pub invariant-stmts-loop-s : goal.invariant-stmts-loop-s
invariant-stmts-loop-s l = each stmt l.list l.c l.fn.w ≡ each stmt (drop l.s-index l.list) l.c l.w

abbrev pub invariant-branches-loop-s : goal.invariant-branches-loop-s
invariant-branches-loop-s l = each par_branch l.list l.c l.fn.w ≡ each par_branch (drop l.s-index l.list) l.c l.w

abbrev pub decreases-stmt : goal.decreases-stmt
decreases-stmt l = 8 * size-Stmt l.s.now

abbrev pub decreases-branch : goal.decreases-branch
decreases-branch l = 8 * size-Stmt l.s.now + 1

abbrev pub decreases-stmts : goal.decreases-stmts
decreases-stmts l = 8 * goal.size-stmts l + 1

abbrev pub decreases-scoped : goal.decreases-scoped
decreases-scoped l = 8 * goal.size-scoped l + 2

abbrev pub decreases-branches : goal.decreases-branches
decreases-branches l = 8 * goal.size-branches l + 2

abbrev pub decreases-other : goal.decreases-other
decreases-other l = 8 * goal.size-other l + 1
