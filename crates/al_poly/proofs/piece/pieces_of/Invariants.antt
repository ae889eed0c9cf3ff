use Rattle.std.proofs.Common.{◌≡◌, map, take}
use Rattle.al_poly.specs.Instances.{piece_of}
use Rattle.al_poly.proofs.piece.pieces_of.Given as goal

abbrev pub invariant-loop-item : goal.invariant-loop-item
invariant-loop-item l = l.pieces ≡ map (piece_of l.names) (take l.item-index l.items)
