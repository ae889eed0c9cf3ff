use Rattle.std.proofs.Common.{◌≡◌, ◌++◌}
use Rattle.al_lower_base.specs.Spots.{spot_of}
use Rattle.al_lower_heads.specs.Turns.{begins}
use Rattle.al_lower_heads.proofs.iterators.begins.Given as goal

abbrev pub invariant-loop-left : goal.invariant-loop-left
invariant-loop-left l = l.code ++ begins (spot_of l.s) l.left l.slot l.first l.size ≡ l.fn.code ++ begins (spot_of l.s) l.count l.turn l.bound l.size

abbrev pub decreases-loop-left : goal.decreases-loop-left
decreases-loop-left l = l.left
