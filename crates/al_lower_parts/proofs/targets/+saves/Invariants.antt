use Rattle.std.proofs.Common.{◌≡◌, ◌+◌, ◌*◌, ◌++◌, drop}
use Rattle.al_typed.specs.declared.expression.TTarget.{size-TTarget}
use Rattle.al_lower_operands.specs.Rows.{aimed_of}
use Rattle.al_lower_base.specs.Spots.{spot_of}
use Rattle.al_lower_parts.proofs.targets.+saves.Given as goal

abbrev pub invariant-save_row-loop-x : goal.invariant-save_row-loop-x
invariant-save_row-loop-x l =
    l.code ++ (aimed_of (spot_of l.s) (drop l.x-index l.xs)).save l.at l.part ≡ l.fn.code ++ (aimed_of (spot_of l.s) l.xs).save l.to l.from

abbrev pub decreases-save_target : goal.decreases-save_target
decreases-save_target l = 4 * size-TTarget l.x.now

abbrev pub decreases-save_row : goal.decreases-save_row
decreases-save_row l = 4 * goal.size-save_row l + 1

abbrev pub decreases-save_parts : goal.decreases-save_parts
decreases-save_parts l = 4 * goal.size-save_parts l + 2
