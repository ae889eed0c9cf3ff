use Rattle.std.proofs.Common.{◌≡◌, ◌+◌, ◌*◌, drop}
use Rattle.al_typed.specs.declared.ty.Ty.{size-Ty}
use Rattle.al_typed.specs.declared.ty.Ty.TheVariants as ty
use Rattle.al_lower_code.specs.Operators.{stays}
use Rattle.al_lower_base.proofs.conversions.+stays.Given as goal

abbrev pub invariant-parts_stay-loop-i : goal.invariant-parts_stay-loop-i
invariant-parts_stay-loop-i l = stays (ty.Tuple (drop l.i l.from)) (ty.Tuple (drop l.i l.into)) ≡ stays (ty.Tuple l.from) (ty.Tuple l.into)

abbrev pub decreases-stays : goal.decreases-stays
decreases-stays l = 8 * size-Ty l.from.now

abbrev pub decreases-parts_stay : goal.decreases-parts_stay
decreases-parts_stay l = 8 * goal.size-parts_stay l + 1

abbrev pub decreases-tuple_stays : goal.decreases-tuple_stays
decreases-tuple_stays l = 8 * goal.size-tuple_stays l + 2
