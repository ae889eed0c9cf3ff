use Rattle.std.proofs.Common.{◌≡◌, ◌++◌, map, drop}
use Rattle.al_typed.specs.Typed.{type_of}
use Rattle.al_lower_code.specs.Actions.{pieces_code}
use Rattle.al_lower_base.specs.Spots.{spot_of}
use Rattle.al_lower_forms.proofs.printing.put_pieces.Given as goal

abbrev pub invariant-loop-piece : goal.invariant-loop-piece
invariant-loop-piece l =
    l.code ++ pieces_code (spot_of l.s) (drop l.piece-index l.format) (map type_of (drop l.left.next l.arguments)) l.left.at
    ≡ l.fn.code ++ pieces_code (spot_of l.s) l.format (map type_of l.arguments) l.at
