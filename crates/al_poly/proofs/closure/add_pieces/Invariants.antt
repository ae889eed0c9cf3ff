use Rattle.std.proofs.Common.{◌≡◌, drop}
use Rattle.std.specs.List.{flat_map}
use Rattle.al_poly.specs.Instances.{with_all, named_by_piece}
use Rattle.al_poly.proofs.closure.add_pieces.Given as goal

abbrev pub invariant-loop-piece : goal.invariant-loop-piece
invariant-loop-piece l =
    with_all l.fn.list (flat_map (named_by_piece l.names l.inside) l.pieces) ≡ with_all l.list (flat_map (named_by_piece l.names l.inside) (drop l.piece-index l.pieces))
