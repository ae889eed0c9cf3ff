use Rattle.std.proofs.Common.{◌≡◌, ◌+◌, ◌*◌, drop}
use Rattle.al_typed.specs.declared.ty.Ty.{size-Ty}
use Rattle.al_convert.specs.Conversions.{types_convert}
use Rattle.al_convert.proofs.conversion.+type_converts.Given as goal

abbrev pub invariant-types_convert-loop-i : goal.invariant-types_convert-loop-i
invariant-types_convert-loop-i l = types_convert l.from l.to ≡ types_convert (drop l.i l.from) (drop l.i l.to)

abbrev pub decreases-type_converts : goal.decreases-type_converts
decreases-type_converts l = 8 * size-Ty l.from.now

abbrev pub decreases-types_convert : goal.decreases-types_convert
decreases-types_convert l = 8 * goal.size-types_convert l + 1

abbrev pub decreases-parts_convert : goal.decreases-parts_convert
decreases-parts_convert l = 8 * goal.size-parts_convert l + 2
