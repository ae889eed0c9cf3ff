use Rattle.std.proofs.Common.{◌≡◌, ◌++◌}
use Rattle.al_lower_code.specs.Moving.{puts_same}
use Rattle.al_lower_base.proofs.code.puts_same.Given as goal

abbrev pub invariant-loop-left : goal.invariant-loop-left
invariant-loop-left l = l.code ++ puts_same l.line l.into l.from l.left ≡ l.fn.code ++ puts_same l.line l.place l.from l.n

abbrev pub decreases-loop-left : goal.decreases-loop-left
decreases-loop-left l = l.left
