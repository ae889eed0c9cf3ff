use Rattle.std.proofs.Common.{◌≡◌, ◌+◌, ◌*◌, drop}
use Rattle.al_tree.specs.declared.statement.Stmt.{size-Stmt}
use Rattle.al_flow.specs.Flow.{each, branches, walk, part}
use Rattle.al_flow.proofs.flow.+flow.Given as goal

abbrev pub invariant-statements-loop-s : goal.invariant-statements-loop-s
invariant-statements-loop-s l = each walk l.body l.marks l.fn.w ≡ each walk (drop l.s-index l.body) l.marks l.w

abbrev pub invariant-branches-loop-s : goal.invariant-branches-loop-s
invariant-branches-loop-s l = branches part l.bodies l.fn.w ≡ branches part (drop l.s-index l.bodies) l.w

abbrev pub decreases-statement : goal.decreases-statement
decreases-statement l = 8 * size-Stmt l.s.now

abbrev pub decreases-in_a_loop : goal.decreases-in_a_loop
decreases-in_a_loop l = 8 * size-Stmt l.s.now + 1

abbrev pub decreases-rescue : goal.decreases-rescue
decreases-rescue l = 8 * size-Stmt l.body.now + 1

abbrev pub decreases-branch : goal.decreases-branch
decreases-branch l = 8 * size-Stmt l.s.now + 1

abbrev pub decreases-statements : goal.decreases-statements
decreases-statements l = 8 * goal.size-statements l + 1

abbrev pub decreases-branches : goal.decreases-branches
decreases-branches l = 8 * goal.size-branches l + 2

abbrev pub decreases-optional : goal.decreases-optional
decreases-optional l = 8 * goal.size-optional l + 1

abbrev pub decreases-block : goal.decreases-block
decreases-block l = 8 * goal.size-block l + 2

abbrev pub decreases-in_a_choice : goal.decreases-in_a_choice
decreases-in_a_choice l = 8 * goal.size-in_a_choice l + 2
