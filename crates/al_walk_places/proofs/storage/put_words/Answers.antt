use Rattle.std.proofs.Common.{rules, ◌≡◌, ℕ, List, [], ◌∷◌, ◌++◌, Some, length, false}
use Rattle.al_meaning.specs.Here as step
use Rattle.al_meaning.specs.Items as item
use Rattle.al_control.proofs.Takings.{goes_on}
use Rattle.al_walk_places.proofs.storage.put_words.Goals as goal

pub returns-in-Took : goal.returns-in-Took
returns-in-Took c =
    goes_on c.does.result _ c.in-Took.place c.in-Took.h _ _ (c.in_ok-next.ensures.taken (λ (f : item.Found) (h : step.Here). step.does h (item.Save c.args.ty.now c.args.words f ∷ []))) c.in-Took.is (search rules)
