use Rattle.std.proofs.Common.{◌-◌, length}
use Rattle.al_lex.proofs.Gone.{Gone}
use Rattle.al_lex.proofs.reading.token_from.Given as goal

abbrev pub invariant-loop-here : goal.invariant-loop-here
invariant-loop-here l = Gone l.text l.at l.here

abbrev pub decreases-loop-here : goal.decreases-loop-here
decreases-loop-here l = length l.text - l.here.at
