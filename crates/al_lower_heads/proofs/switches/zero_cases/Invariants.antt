use Rattle.std.proofs.Common.{◌≡◌, ◌++◌, drop, map}
use Rattle.al_lower_heads.specs.Cases.{case_of, zero_cases_of}
use Rattle.al_lower_heads.proofs.switches.zero_cases.Given as goal

abbrev pub invariant-loop-a : goal.invariant-loop-a
invariant-loop-a l = map case_of l.cases.items ++ zero_cases_of (drop l.a-index l.body) ≡ zero_cases_of l.body
