use Rattle.std.proofs.Common.{◌≡◌, ◌++◌, drop}
use Rattle.al_lower_code.specs.Heads as heads
use Rattle.al_lower_base.specs.Spots.{spot_of}
use Rattle.al_lower_heads.specs.Cases.{referred}
use Rattle.al_lower_heads.proofs.alts.talk_branches.Given as goal

abbrev pub invariant-loop-case : goal.invariant-loop-case
invariant-loop-case l =
    l.branches ++ heads.talk_branches (spot_of l.s) (referred (drop l.case-index l.cases)) l.slot ≡ heads.talk_branches (spot_of l.s) (referred l.cases) l.at
