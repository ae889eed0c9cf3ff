use Rattle.std.proofs.Common.{◌≡◌, ◌+◌, drop, length}
use Rattle.al_meaning.specs.Evaluate.{alt_exprs}
use Rattle.al_walk_cases.specs.CaseLists.{communications_in}
use Rattle.al_walk_cases.proofs.alts.count_all.Given as goal

abbrev pub invariant-loop-s : goal.invariant-loop-s
invariant-loop-s l = l.count + length (alt_exprs (communications_in (drop l.s-index l.body))) ≡ length (alt_exprs (communications_in l.body))
