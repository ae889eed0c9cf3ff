use Rattle.std.proofs.Common.{◌≡◌, drop}
use Rattle.al_meaning.specs.Calls.{evaluated}
use Rattle.al_meaning.specs.Evaluate.{alt_exprs}
use Rattle.al_meaning.specs.Here.{with_work}
use Rattle.al_control.specs.Models.{here_of}
use Rattle.al_walk_cases.specs.CaseLists.{communications_in}
use Rattle.al_walk_cases.proofs.alts.with_cases.Given as goal

abbrev pub invariant-loop-k : goal.invariant-loop-k
invariant-loop-k l = here_of l.h ≡ with_work (evaluated (alt_exprs (communications_in (drop l.k l.body)))) (here_of l.fn.h)
