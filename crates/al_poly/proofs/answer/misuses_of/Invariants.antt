use Rattle.std.proofs.Common.{◌≡◌, take}
use Rattle.std.specs.List.{flat_map}
use Rattle.al_poly.specs.Instances.{misuses_of_piece}
use Rattle.al_poly.proofs.answer.misuses_of.Given as goal

abbrev pub invariant-loop-piece : goal.invariant-loop-piece
invariant-loop-piece l = l.misuses ≡ flat_map (misuses_of_piece l.names) (take l.piece-index l.pieces)
