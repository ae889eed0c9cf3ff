use Rattle.std.proofs.Common.{◌≡◌, ◌++◌, length}
use Rattle.al_meaning.specs.Calls.{joined}
use Rattle.al_control.proofs.take.joined.Given as goal

abbrev pub invariant-loop-more : goal.invariant-loop-more
invariant-loop-more l = l.words ++ joined l.values ≡ joined l.fn.values

abbrev pub decreases-loop-more : goal.decreases-loop-more
decreases-loop-more l = length l.values
