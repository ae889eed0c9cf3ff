use Rattle.std.proofs.Common.{rules, ◌≡◌, ℕ, List, [], ◌∷◌, ◌++◌, Some, length, false}
use Rattle.al_meaning.specs.Here as step
use Rattle.al_meaning.specs.Words.{zero_words}
use Rattle.al_meaning.specs.Places.{words_in}
use Rattle.al_meaning.specs.Evaluate.{saves_and_gives}
use Rattle.al_control.proofs.Takings.{goes_on}
use Rattle.al_walk_places.proofs.updates.clear_words.Goals as goal

pub returns-in-Took : goal.returns-in-Took
returns-in-Took c =
    goes_on c.clear_there.result _ c.in-Took.old c.in-Took.h _ _ (c.in_ok-next.ensures.taken (λ (old : List ℕ) (h : step.Here). step.with_place h (λ f h. saves_and_gives h c.args.ty.now f (zero_words (words_in h.program c.args.ty.now)) old))) c.in-Took.is c.clear_there.ensures
