use Rattle.std.proofs.Common.{◌≡◌, ◌++◌}
use Rattle.al_lower_code.specs.Moving.{gets}
use Rattle.al_lower_base.proofs.code.gets.Given as goal

abbrev pub invariant-loop-left : goal.invariant-loop-left
invariant-loop-left l = l.code ++ gets l.line l.into l.of l.left ≡ l.fn.code ++ gets l.line l.to l.place l.n

abbrev pub decreases-loop-left : goal.decreases-loop-left
decreases-loop-left l = l.left
