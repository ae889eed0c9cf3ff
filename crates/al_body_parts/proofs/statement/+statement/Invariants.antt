use Rattle.std.proofs.Common.{◌≡◌, ◌+◌, ◌*◌, drop}
use Rattle.al_tree.specs.declared.statement.Stmt.{size-Stmt}
use Rattle.al_body_parts.specs.Expressions.{each}
use Rattle.al_body_parts.specs.Statements.{stmt, in_branch}
use Rattle.al_body_parts.proofs.statement.+statement.Given as goal

abbrev pub invariant-stmts-loop-s : goal.invariant-stmts-loop-s
invariant-stmts-loop-s l = each (stmt l.env l.here) l.list l.inside l.fn.parts ≡ each (stmt l.env l.here) (drop l.s-index l.list) l.inside l.parts

abbrev pub invariant-branches-loop-s : goal.invariant-branches-loop-s
invariant-branches-loop-s l =
    each (in_branch l.env l.here) l.list l.inside l.fn.parts ≡ each (in_branch l.env l.here) (drop l.s-index l.list) l.inside l.parts

abbrev pub decreases-stmt : goal.decreases-stmt
decreases-stmt l = 8 * size-Stmt l.s.now

abbrev pub decreases-stmts : goal.decreases-stmts
decreases-stmts l = 8 * goal.size-stmts l + 1

abbrev pub decreases-branches : goal.decreases-branches
decreases-branches l = 8 * goal.size-branches l + 1

abbrev pub decreases-other : goal.decreases-other
decreases-other l = 8 * goal.size-other l + 1
