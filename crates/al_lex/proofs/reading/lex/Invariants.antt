use Rattle.std.proofs.Common.{◌-◌, length}
use Rattle.al_lex.proofs.Read.{Read}
use Rattle.al_lex.proofs.reading.lex.Given as goal

abbrev pub invariant-loop-here : goal.invariant-loop-here
invariant-loop-here l = Read l.text l.names l.list.items l.here

abbrev pub decreases-loop-here : goal.decreases-loop-here
decreases-loop-here l = length l.text - l.here.at
