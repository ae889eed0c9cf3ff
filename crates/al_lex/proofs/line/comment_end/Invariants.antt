use Rattle.std.proofs.Common.{◌≡◌, ◌+◌, ◌-◌, length, drop, option_map}
use Rattle.al_lex.specs.Scan.{comment_end}
use Rattle.al_lex.proofs.line.comment_end.Given as goal

abbrev pub invariant-loop-at : goal.invariant-loop-at
invariant-loop-at l = comment_end l.rest ≡ option_map (λ n. l.at + n) (comment_end (drop l.at l.rest))

abbrev pub decreases-loop-at : goal.decreases-loop-at
decreases-loop-at l = length l.rest - l.at
