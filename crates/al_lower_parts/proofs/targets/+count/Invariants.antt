use Rattle.std.proofs.Common.{◌≡◌, ◌+◌, ◌*◌, drop}
use Rattle.al_typed.specs.declared.expression.TTarget.{size-TTarget}
use Rattle.al_lower_operands.specs.Rows.{aimed_of}
use Rattle.al_lower_base.specs.Spots.{spot_of}
use Rattle.al_lower_parts.proofs.targets.+count.Given as goal

abbrev pub invariant-count_row-loop-x : goal.invariant-count_row-loop-x
invariant-count_row-loop-x l = l.count + (aimed_of (spot_of l.s) (drop l.x-index l.xs)).count ≡ (aimed_of (spot_of l.s) l.xs).count

abbrev pub decreases-count_targets : goal.decreases-count_targets
decreases-count_targets l = 4 * size-TTarget l.x.now

abbrev pub decreases-count_row : goal.decreases-count_row
decreases-count_row l = 4 * goal.size-count_row l + 1

abbrev pub decreases-count_parts : goal.decreases-count_parts
decreases-count_parts l = 4 * goal.size-count_parts l + 2
