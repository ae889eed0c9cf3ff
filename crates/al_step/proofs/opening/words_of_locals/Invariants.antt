use Rattle.std.proofs.Common.{◌≡◌, take}
use Rattle.std.specs.List.{sum_by}
use Rattle.al_typed.specs.Capped.{capped}
use Rattle.al_step.proofs.Openings.{local_words}
use Rattle.al_step.proofs.opening.words_of_locals.Given as goal

abbrev pub invariant-loop-local : goal.invariant-loop-local
invariant-loop-local l = l.sum ≡ capped (sum_by (local_words l.rows) (take l.local-index l.locals))
