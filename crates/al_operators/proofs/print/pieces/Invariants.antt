use Rattle.std.proofs.Common.{◌≡◌, drop}
use Rattle.al_operators.specs.Formats.{pieces}
use Rattle.al_operators.proofs.FormatsAre.{behind, reads}
use Rattle.al_operators.proofs.print.pieces.Given as goal

abbrev pub invariant-loop-byte : goal.invariant-loop-byte
invariant-loop-byte l = pieces l.fn.bytes ≡ behind l.done (reads l.is_verb (drop l.byte-index l.bytes))
