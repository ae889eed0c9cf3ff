use Rattle.std.proofs.Common.{◌≡◌, ◌+◌, ◌*◌, max, drop}
use Rattle.al_typed.specs.declared.statement.TStmt.{size-TStmt}
use Rattle.al_lower_base.specs.Spots.{spot_of}
use Rattle.al_lower_stmt.specs.Bodies.{sizes}
use Rattle.al_lower_stmt.proofs.sizes.+sizes.Given as goal

abbrev pub invariant-all_size-loop-a : goal.invariant-all_size-loop-a
invariant-all_size-loop-a l = l.size + sizes (spot_of l.s) (drop l.a-index l.body) ≡ sizes (spot_of l.s) l.body

abbrev pub decreases-stmt_size : goal.decreases-stmt_size
decreases-stmt_size l = 8 * size-TStmt l.a.now

abbrev pub decreases-part_size : goal.decreases-part_size
decreases-part_size l = 8 * size-TStmt l.a.now + 1

abbrev pub decreases-other_size : goal.decreases-other_size
decreases-other_size l = 8 * goal.size-other_size l + 3

abbrev pub decreases-all_size : goal.decreases-all_size
decreases-all_size l = 8 * goal.size-all_size l + 1

abbrev pub decreases-items_size : goal.decreases-items_size
decreases-items_size l = 8 * goal.size-items_size l + 2

abbrev pub decreases-if_size : goal.decreases-if_size
decreases-if_size l = 8 * max (goal.size-if_size l) (size-TStmt l.chosen.now) + 4

abbrev pub decreases-loop_size : goal.decreases-loop_size
decreases-loop_size l = 8 * size-TStmt l.body.now + 2

abbrev pub decreases-for_size : goal.decreases-for_size
decreases-for_size l = 8 * size-TStmt l.body.now + 2

abbrev pub decreases-skipped_size : goal.decreases-skipped_size
decreases-skipped_size l = 8 * size-TStmt l.a.now + 2

abbrev pub decreases-cases_size : goal.decreases-cases_size
decreases-cases_size l = 8 * goal.size-cases_size l + 3

abbrev pub decreases-talks_size : goal.decreases-talks_size
decreases-talks_size l = 8 * goal.size-talks_size l + 3
