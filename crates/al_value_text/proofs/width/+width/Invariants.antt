use Rattle.std.proofs.Common.{◌≡◌, ◌+◌, ◌*◌, take}
use Rattle.std.specs.Prelude.{sum_by}
use Rattle.al_typed.specs.Capped.{capped}
use Rattle.al_typed.proofs.Depths.{deepest, depth, depth_of}
use Rattle.al_value_text.specs.Values.{words_in}
use Rattle.al_value_text.proofs.width.+width.Given as goal

abbrev pub decreases-width : goal.decreases-width
decreases-width l = 4 * (depth_of l.aggregates.now + depth l.ty.now)

abbrev pub decreases-aggregate_width : goal.decreases-aggregate_width
decreases-aggregate_width l = 4 * depth_of l.aggregates.now + 3

abbrev pub decreases-widths : goal.decreases-widths
decreases-widths l = 4 * (depth_of l.aggregates.now + deepest l.types.now) + 1

abbrev pub invariant-widths-loop-ty : goal.invariant-widths-loop-ty
invariant-widths-loop-ty l = l.sum ≡ capped (sum_by (words_in l.aggregates) (take l.ty-index l.types))
