use Rattle.std.proofs.Common.{◌≡◌, ◌++◌, drop}
use Rattle.al_meaning.specs.Evaluate.{alt_branches}
use Rattle.al_walk_cases.specs.CaseLists.{communications_in}
use Rattle.al_walk_cases.proofs.alts.all_branches.Given as goal

abbrev pub invariant-loop-s : goal.invariant-loop-s
invariant-loop-s l = l.branches ++ alt_branches l.p (communications_in (drop l.s-index l.body)) l.values ≡ alt_branches l.p (communications_in l.body) l.fn.values
