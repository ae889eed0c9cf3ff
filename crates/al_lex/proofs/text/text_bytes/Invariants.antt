use Rattle.std.proofs.Common.{◌≡◌, ◌-◌, ◌++◌, length, drop}
use Rattle.al_lex.specs.Values.{text_of, text_from}
use Rattle.al_lex.proofs.text.text_bytes.Given as goal

abbrev pub invariant-loop-at : goal.invariant-loop-at
invariant-loop-at l = text_of l.bytes ≡ l.found.items ++ text_from 0 (drop l.at l.bytes)

abbrev pub decreases-loop-at : goal.decreases-loop-at
decreases-loop-at l = length l.bytes - l.at
