use Rattle.std.proofs.Common.{◌≡◌, ◌+◌, ◌*◌, drop}
use Rattle.al_tree.specs.declared.statement.Stmt.{size-Stmt}
use Rattle.al_type_function.specs.Branches.{each, branches, in_par}
use Rattle.al_type_function.proofs.branches.+branches.Given as goal

abbrev pub invariant-statements-loop-s : goal.invariant-statements-loop-s
invariant-statements-loop-s l =
    (each (branches l.env l.names l.w) l.list l.fn.site l.fn.done ≡ each (branches l.env l.names l.w) (drop l.s-index l.list) l.fn.site l.done)
    × (l.site ≡ l.fn.site)

abbrev pub invariant-branches-loop-s : goal.invariant-branches-loop-s
invariant-branches-loop-s l =
    (each (in_par l.env l.names l.w) l.list l.fn.site l.fn.done ≡ each (in_par l.env l.names l.w) (drop l.s-index l.list) l.fn.site l.done)
    × (l.site ≡ l.fn.site)

abbrev pub decreases-branches_in : goal.decreases-branches_in
decreases-branches_in l = 8 * size-Stmt l.s.now

abbrev pub decreases-branch : goal.decreases-branch
decreases-branch l = 8 * size-Stmt l.s.now + 1

abbrev pub decreases-statements : goal.decreases-statements
decreases-statements l = 8 * goal.size-statements l + 1

abbrev pub decreases-branches : goal.decreases-branches
decreases-branches l = 8 * goal.size-branches l + 2

abbrev pub decreases-other : goal.decreases-other
decreases-other l = 8 * goal.size-other l + 1
