use Rattle.std.proofs.Common.{◌≡◌, take}
use Rattle.std.specs.Prelude.{sum_by}
use Rattle.al_typed.specs.Capped.{capped}
use Rattle.al_typed.specs.Measures.{piece_length}
use Rattle.al_typed.proofs.tally.format_length.Given as goal

abbrev pub invariant-loop-part : goal.invariant-loop-part
invariant-loop-part l = l.length ≡ capped (sum_by piece_length (take l.part-index l.format))
