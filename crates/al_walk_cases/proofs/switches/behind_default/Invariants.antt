use Rattle.std.proofs.Common.{◌≡◌, drop}
use Rattle.al_walk_cases.specs.CaseLists.{behind, is_default}
use Rattle.al_walk_cases.proofs.switches.behind_default.Given as goal

abbrev pub invariant-loop-k : goal.invariant-loop-k
invariant-loop-k l = behind (is_default) l.body ≡ behind (is_default) (drop l.k l.body)
