use Rattle.std.proofs.Common.{◌≡◌, ◌++◌}
use Rattle.al_lower_code.specs.Moving.{copies}
use Rattle.al_lower_base.proofs.code.copies.Given as goal

abbrev pub invariant-loop-left : goal.invariant-loop-left
invariant-loop-left l = l.code ++ copies l.line l.into l.of l.left ≡ l.fn.code ++ copies l.line l.to l.from l.n

abbrev pub decreases-loop-left : goal.decreases-loop-left
decreases-loop-left l = l.left
