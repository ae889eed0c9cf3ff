use Rattle.std.proofs.Common.{◌≡◌, ◌++◌}
use Rattle.al_lower_code.specs.Moving.{results}
use Rattle.al_lower_base.proofs.code.results.Given as goal

abbrev pub invariant-loop-left : goal.invariant-loop-left
invariant-loop-left l = l.code ++ results l.line l.into l.of l.left ≡ l.fn.code ++ results l.line l.to l.word l.n

abbrev pub decreases-loop-left : goal.decreases-loop-left
decreases-loop-left l = l.left
