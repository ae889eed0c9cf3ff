use Rattle.std.proofs.Common.{◌≡◌, ◌++◌, drop}
use Rattle.al_lower_code.specs.Heads as heads
use Rattle.al_lower_base.specs.Spots.{spot_of}
use Rattle.al_lower_heads.specs.Cases.{referred}
use Rattle.al_lower_heads.proofs.alts.dispatch.Given as goal

abbrev pub invariant-loop-k : goal.invariant-loop-k
invariant-loop-k l =
    l.code ++ heads.dispatch (spot_of l.s) l.number (referred (drop l.k l.cases)) (drop l.k l.bodies) l.branch l.got l.free
    ≡ l.fn.code ++ heads.dispatch (spot_of l.s) 0 (referred l.cases) l.bodies l.branch l.got l.free
