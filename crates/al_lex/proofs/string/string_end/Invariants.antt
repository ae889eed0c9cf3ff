use Rattle.std.proofs.Common.{◌≡◌, ◌-◌, length, drop, false}
use Rattle.al_lex.specs.Scan.{string_from, onward}
use Rattle.al_lex.proofs.string.string_end.Given as goal

abbrev pub invariant-loop-at : goal.invariant-loop-at
invariant-loop-at l = string_from false l.rest ≡ onward l.at (string_from false (drop l.at l.rest))

abbrev pub decreases-loop-at : goal.decreases-loop-at
decreases-loop-at l = length l.rest - l.at
