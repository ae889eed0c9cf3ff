use Rattle.std.proofs.Common.{◌≡◌, ◌++◌}
use Rattle.al_lower_base.specs.Spots.{spot_of}
use Rattle.al_lower_heads.specs.Turns.{ends}
use Rattle.al_lower_heads.proofs.iterators.ends.Given as goal

abbrev pub invariant-loop-left : goal.invariant-loop-left
invariant-loop-left l = l.code ++ ends (spot_of l.s) l.left l.turn l.pc ≡ l.fn.code ++ ends (spot_of l.s) l.count l.turn l.pc

abbrev pub decreases-loop-left : goal.decreases-loop-left
decreases-loop-left l = l.left
