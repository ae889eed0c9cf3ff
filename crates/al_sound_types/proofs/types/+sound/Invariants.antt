use Rattle.std.proofs.Common.{◌≡◌, take, true}
use Rattle.std.specs.List.{list_all}
use Rattle.al_sound_types.specs.Types.{is_part}
use Rattle.al_sound_types.proofs.types.+sound.Given as goal

abbrev pub invariant-are_parts-loop-ty : goal.invariant-are_parts-loop-ty
invariant-are_parts-loop-ty l = list_all (is_part l.rows) (take l.ty-index l.tys) ≡ true
