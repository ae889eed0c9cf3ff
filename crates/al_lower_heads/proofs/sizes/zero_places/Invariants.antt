use Rattle.std.proofs.Common.{◌≡◌, ◌++◌, drop}
use Rattle.al_lower_code.specs.Heads as heads
use Rattle.al_lower_heads.specs.Cases.{referred}
use Rattle.al_lower_heads.proofs.sizes.zero_places.Given as goal

abbrev pub invariant-loop-case : goal.invariant-loop-case
invariant-loop-case l = l.places ++ heads.zero_places (referred (drop l._case-index l.cases)) ≡ heads.zero_places (referred l.cases)
