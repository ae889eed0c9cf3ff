use Rattle.std.proofs.Common.{◌≡◌, ◌++◌, drop, map}
use Rattle.al_lower_base.specs.Spots.{spot_of}
use Rattle.al_lower_heads.specs.Cases.{case_of}
use Rattle.al_lower_stmt.specs.Bodies.{cases_from}
use Rattle.al_lower_stmt.proofs.cases.case_places.Given as goal

abbrev pub invariant-loop-a : goal.invariant-loop-a
invariant-loop-a l = map case_of l.places ++ cases_from (spot_of l.s) (drop l.a-index l.body) l.at ≡ cases_from (spot_of l.s) l.body l.pc
