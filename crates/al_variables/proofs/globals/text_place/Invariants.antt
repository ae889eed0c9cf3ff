use Rattle.std.proofs.Common.{◌≡◌, map, take, length}
use Rattle.std.specs.Prelude.{fold}
use Rattle.al_typed.specs.Capped.{capped}
use Rattle.al_meaning.specs.Places.{behind, global_place}
use Rattle.al_variables.proofs.Placements.{text_size}
use Rattle.al_variables.proofs.globals.text_place.Given as goal

abbrev pub invariant-loop-text : goal.invariant-loop-text
invariant-loop-text l = l.at ≡ capped (fold behind (global_place l.p (length l.p.globals)) (map text_size (take l.text-index l.before)))
