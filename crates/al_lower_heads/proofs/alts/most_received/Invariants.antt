use Rattle.std.proofs.Common.{◌≡◌, max, drop}
use Rattle.al_lower_code.specs.Heads as heads
use Rattle.al_lower_base.specs.Spots.{spot_of}
use Rattle.al_lower_heads.specs.Cases.{referred}
use Rattle.al_lower_heads.proofs.alts.most_received.Given as goal

abbrev pub invariant-loop-case : goal.invariant-loop-case
invariant-loop-case l =
    max l.most (heads.most_received (spot_of l.s) (referred (drop l.case-index l.cases))) ≡ heads.most_received (spot_of l.s) (referred l.cases)
