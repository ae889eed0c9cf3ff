use Rattle.std.proofs.Common.{◌≡◌, drop}
use Rattle.al_walk_cases.specs.CaseLists.{behind, has_bits}
use Rattle.al_walk_cases.proofs.switches.behind_case.Given as goal

abbrev pub invariant-loop-k : goal.invariant-loop-k
invariant-loop-k l = behind (has_bits l.bits) l.body ≡ behind (has_bits l.bits) (drop l.k l.body)
