use Rattle.std.proofs.Common.{◌≡◌, take}
use Rattle.std.specs.List.{sum_by}
use Rattle.al_typed.specs.Capped.{capped}
use Rattle.al_meaning.specs.Places.{private_words_of}
use Rattle.al_step.proofs.opening.words_of_globals.Given as goal

abbrev pub invariant-loop-global : goal.invariant-loop-global
invariant-loop-global l = l.sum ≡ capped (sum_by (private_words_of l.p) (take l.global-index l.globals))
