use Rattle.std.proofs.Common.{◌≡◌, ◌++◌, drop}
use Rattle.al_lower_heads.specs.Cases.{referred, communications}
use Rattle.al_lower_heads.proofs.alts.cases_in.Given as goal

abbrev pub invariant-loop-a : goal.invariant-loop-a
invariant-loop-a l = referred l.cases ++ communications (drop l.a-index l.body) ≡ communications l.body
