use Rattle.std.proofs.Common.{◌≡◌, ◌+◌, ◌*◌, max, drop}
use Rattle.al_lower_base.specs.Spots.{spot_of}
use Rattle.al_lower_operands.specs.Rows.{row_of}
use Rattle.al_typed.specs.declared.expression.TExpr.{size-TExpr}
use Rattle.al_typed.specs.declared.expression.TPlace.{size-TPlace}
use Rattle.al_lower_operands.proofs.keeping.+keeps.Given as goal

abbrev pub decreases-keeps : goal.decreases-keeps
decreases-keeps l = 8 * size-TExpr l.e.now

abbrev pub decreases-part_keeps : goal.decreases-part_keeps
decreases-part_keeps l = 8 * size-TExpr l.e.now + 1

abbrev pub decreases-place_part_keeps : goal.decreases-place_part_keeps
decreases-place_part_keeps l = 8 * size-TPlace l.p.now + 1

abbrev pub decreases-both_keep : goal.decreases-both_keep
decreases-both_keep l = 8 * max (size-TExpr l.a.now) (size-TExpr l.b.now) + 2

abbrev pub decreases-row_keeps : goal.decreases-row_keeps
decreases-row_keeps l = 8 * goal.size-row_keeps l + 1

abbrev pub decreases-items_keep : goal.decreases-items_keep
decreases-items_keep l = 8 * goal.size-items_keep l + 2

abbrev pub decreases-pointer_and_row_keep : goal.decreases-pointer_and_row_keep
decreases-pointer_and_row_keep l = 8 * max (goal.size-pointer_and_row_keep l) (size-TExpr l.e.now) + 3

abbrev pub decreases-row_and_last_keep : goal.decreases-row_and_last_keep
decreases-row_and_last_keep l = 8 * max (goal.size-row_and_last_keep l) (size-TExpr l.e.now) + 3

abbrev pub decreases-received_keeps : goal.decreases-received_keeps
decreases-received_keeps l = 8 * goal.size-received_keeps l

abbrev pub decreases-object_keeps : goal.decreases-object_keeps
decreases-object_keeps l = 8 * goal.size-object_keeps l + 1

abbrev pub decreases-element_keeps : goal.decreases-element_keeps
decreases-element_keeps l = 8 * max (size-TExpr l.base.now) (size-TExpr l.index.now) + 3

abbrev pub decreases-place_keeps : goal.decreases-place_keeps
decreases-place_keeps l = 8 * size-TPlace l.p.now

abbrev pub invariant-row_keeps-loop-e : goal.invariant-row_keeps-loop-e
invariant-row_keeps-loop-e l = (row_of (spot_of l.s) l.row).keeps ≡ (row_of (spot_of l.s) (drop l.e-index l.row)).keeps
