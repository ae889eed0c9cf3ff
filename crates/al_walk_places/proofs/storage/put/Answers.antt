use Rattle.std.proofs.Common.{rules, ◌≡◌, ℕ, List, [], ◌∷◌, ◌++◌, Some, length, false}
use Rattle.al_meaning.specs.Here as step
use Rattle.al_meaning.specs.Items as item
use Rattle.al_control.proofs.Takings.{goes_on}
use Rattle.al_walk_places.proofs.storage.put.Goals as goal

pub returns-in-Took : goal.returns-in-Took
returns-in-Took c =
    goes_on c.put_words.result _ c.in-Took.words c.in-Took.h _ _ (c.in_ok-next.ensures.taken (λ (ws : List ℕ) (h : step.Here). step.with_place h (λ f h. step.does h (item.Save c.args.ty.now ws f ∷ [])))) c.in-Took.is c.put_words.ensures
