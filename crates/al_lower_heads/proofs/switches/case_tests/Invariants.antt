use Rattle.std.proofs.Common.{◌≡◌, ◌++◌, drop, map}
use Rattle.al_meaning.specs.Shown.{kind_of}
use Rattle.al_lower_code.specs.Heads as heads
use Rattle.al_lower_base.specs.Spots.{spot_of}
use Rattle.al_lower_heads.specs.Cases.{case_of}
use Rattle.al_lower_heads.proofs.switches.case_tests.Given as goal

abbrev pub invariant-loop-case : goal.invariant-loop-case
invariant-loop-case l =
    l.code ++ heads.case_tests (spot_of l.s) (kind_of l.ty) l.at l.free (map case_of (drop l.case-index l.cases))
    ≡ l.fn.code ++ heads.case_tests (spot_of l.s) (kind_of l.ty) l.at l.free (map case_of l.cases)
