use Rattle.std.proofs.Common.{◌≡◌, take}
use Rattle.std.specs.Prelude.{sum_by}
use Rattle.al_typed.specs.Capped.{capped}
use Rattle.al_meaning.specs.Places.{private_words_of}
use Rattle.al_lower_operands.proofs.variables.private_place.Given as goal

abbrev pub invariant-loop-global : goal.invariant-loop-global
invariant-loop-global l = l.place ≡ capped (sum_by (private_words_of l.p) (take l.global-index l.before))
