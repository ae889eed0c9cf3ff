use Rattle.std.proofs.Common.{◌≡◌, ◌+◌, ◌*◌, ◌≤◌, ◌++◌, drop, length}
use Rattle.al_typed.specs.declared.ty.Ty.{size-Ty}
use Rattle.al_typed.specs.declared.ty.Ty.TheVariants as ty
use Rattle.al_meaning.specs.Words.{converted}
use Rattle.al_control_values.proofs.conversions.+converted.Given as goal

abbrev pub invariant-converted_parts-loop-i : goal.invariant-converted_parts-loop-i
invariant-converted_parts-loop-i l = record {
  so_far :
      l.out ++ converted l.rows (ty.Tuple (drop l.i l.from)) (ty.Tuple (drop l.i l.to)) l.rest
      ≡ converted l.rows (ty.Tuple l.from) (ty.Tuple l.to) l.words;
  within : length l.rest ≤ length l.words;
}

abbrev pub decreases-converted : goal.decreases-converted
decreases-converted l = 8 * size-Ty l.from.now

abbrev pub decreases-converted_parts : goal.decreases-converted_parts
decreases-converted_parts l = 8 * goal.size-converted_parts l + 1

abbrev pub decreases-converted_tuple : goal.decreases-converted_tuple
decreases-converted_tuple l = 8 * goal.size-converted_tuple l + 2
