use Rattle.std.proofs.Common.{◌≡◌, ◌+◌, ◌*◌, drop}
use Rattle.al_typed.specs.declared.ty.Ty.{size-Ty}
use Rattle.al_convert.specs.Same.{same_list}
use Rattle.al_convert.proofs.sameness.+same.Given as goal

abbrev pub invariant-same_list-loop-i : goal.invariant-same_list-loop-i
invariant-same_list-loop-i l = same_list l.counted l.xs l.ys ≡ same_list l.counted (drop l.i l.xs) (drop l.i l.ys)

abbrev pub decreases-same : goal.decreases-same
decreases-same l = 8 * size-Ty l.a.now

abbrev pub decreases-is_same : goal.decreases-is_same
decreases-is_same l = 8 * size-Ty l.x.now + 1

abbrev pub decreases-same_list : goal.decreases-same_list
decreases-same_list l = 8 * goal.size-same_list l + 1

abbrev pub decreases-are_same : goal.decreases-are_same
decreases-are_same l = 8 * goal.size-are_same l + 2
