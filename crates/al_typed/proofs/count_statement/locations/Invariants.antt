use Rattle.std.proofs.Common.{◌≡◌, take, false}
use Rattle.std.specs.List.{flat_map}
use Rattle.al_typed.specs.Measures.{tallied, place_pieces}
use Rattle.al_typed.proofs.count_statement.locations.Given as goal

abbrev pub invariant-loop-place : goal.invariant-loop-place
invariant-loop-place l = l.tally ≡ tallied l.p l.fn.tally (flat_map (place_pieces false) (take l.place-index l.places))
