use Rattle.std.proofs.Common.{◌≡◌, ◌+◌, ◌*◌, ◌++◌, drop}
use Rattle.al_typed.specs.declared.ty.Ty.{size-Ty}
use Rattle.al_typed.specs.declared.ty.Ty.TheVariants as ty
use Rattle.al_lower_code.specs.Operators.{convert_code}
use Rattle.al_lower_base.specs.Spots.{spot_of}
use Rattle.al_lower_base.proofs.conversions.+convert.Given as goal

abbrev pub invariant-convert_parts-loop-i : goal.invariant-convert_parts-loop-i
invariant-convert_parts-loop-i l =
    l.code ++ convert_code (spot_of l.s) (ty.Tuple (drop l.i l.from)) (ty.Tuple (drop l.i l.into)) l.slot l.old
    ≡ l.fn.code ++ convert_code (spot_of l.s) (ty.Tuple l.from) (ty.Tuple l.into) l.to l.at

abbrev pub decreases-convert : goal.decreases-convert
decreases-convert l = 8 * size-Ty l.from.now

abbrev pub decreases-convert_parts : goal.decreases-convert_parts
decreases-convert_parts l = 8 * goal.size-convert_parts l + 1
