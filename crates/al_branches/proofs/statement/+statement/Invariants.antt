use Rattle.std.proofs.Common.{◌≡◌, ◌+◌, ◌*◌, ◌++◌, drop}
use Rattle.std.specs.List.{flat_map}
use Rattle.al_tree.specs.declared.statement.Stmt.{size-Stmt}
use Rattle.al_branches.specs.Statements.{branch_places, in_par}
use Rattle.al_branches.proofs.statement.+statement.Given as goal

abbrev pub invariant-stmts-loop-s : goal.invariant-stmts-loop-s
invariant-stmts-loop-s l = l.fn.places ++ flat_map branch_places l.list ≡ l.places ++ flat_map branch_places (drop l.s-index l.list)

abbrev pub invariant-branches-loop-s : goal.invariant-branches-loop-s
invariant-branches-loop-s l = l.fn.places ++ flat_map in_par l.list ≡ l.places ++ flat_map in_par (drop l.s-index l.list)

abbrev pub decreases-stmt : goal.decreases-stmt
decreases-stmt l = 8 * size-Stmt l.s.now

abbrev pub decreases-stmts : goal.decreases-stmts
decreases-stmts l = 8 * goal.size-stmts l + 1

abbrev pub decreases-branches : goal.decreases-branches
decreases-branches l = 8 * goal.size-branches l + 1

abbrev pub decreases-other : goal.decreases-other
decreases-other l = 8 * goal.size-other l + 1
