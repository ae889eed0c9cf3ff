use Rattle.std.proofs.Common.{◌≡◌, drop}
use Rattle.std.specs.Prelude.{slice_get}
use Rattle.al_walk_cases.specs.CaseLists.{branchings_in}
use Rattle.al_walk_cases.proofs.alts.place_of.Given as goal

abbrev pub invariant-loop-k : goal.invariant-loop-k
invariant-loop-k l = slice_get (branchings_in l.cases) l.number ≡ slice_get (branchings_in (drop l.k l.cases)) l.left
