use Rattle.al_show.proofs.Walked.{Walked}
use Rattle.al_show.proofs.walking.walk_on.Given as goal

abbrev pub invariant-loop-at : goal.invariant-loop-at
invariant-loop-at l = Walked l.initial.source l.entries l.at l.source
