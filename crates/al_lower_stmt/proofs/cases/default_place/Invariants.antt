use Rattle.std.proofs.Common.{◌≡◌, drop}
use Rattle.al_lower_base.specs.Spots.{spot_of}
use Rattle.al_lower_stmt.specs.Bodies.{default_from}
use Rattle.al_lower_stmt.proofs.cases.default_place.Given as goal

abbrev pub invariant-loop-a : goal.invariant-loop-a
invariant-loop-a l = default_from (spot_of l.s) (drop l.a-index l.body) l.at ≡ default_from (spot_of l.s) l.body l.pc
