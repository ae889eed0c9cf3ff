use Rattle.std.proofs.Common.{◌≡◌, ◌+◌, ◌++◌, drop}
use Rattle.std.specs.Prelude.{sum_by}
use Rattle.al_lower_code.specs.Heads as heads
use Rattle.al_lower_base.specs.Spots.{spot_of}
use Rattle.al_lower_heads.specs.Cases.{referred}
use Rattle.al_lower_heads.proofs.alts.talks.Given as goal

abbrev pub invariant-loop-case : goal.invariant-loop-case
invariant-loop-case l = record {
  made :
      l.code ++ heads.talks_code (spot_of l.s) (referred (drop l.case-index l.cases)) l.slot
      ≡ l.fn.code ++ heads.talks_code (spot_of l.s) (referred l.cases) l.to;
  counted :
      l.slot + sum_by (heads.talk_size (spot_of l.s)) (referred (drop l.case-index l.cases))
      ≡ l.to + sum_by (heads.talk_size (spot_of l.s)) (referred l.cases);
}
