use Rattle.std.proofs.Common.{rules, ◌≡◌, ℕ, List, [], ◌∷◌, ◌++◌, Some, length, false}
use Rattle.al_meaning.specs.Here as step
use Rattle.al_meaning.specs.Items as item
use Rattle.al_meaning.specs.Evaluate.{saves}
use Rattle.al_walk_places.specs.Referred.{referred}
use Rattle.al_control.proofs.Takings.{goes_on}
use Rattle.al_walk_places.proofs.targets.assign_parts.Goals as goal

pub returns-in-Took : goal.returns-in-Took
returns-in-Took c =
    goes_on c.assigns.result _ c.in-Took.places c.in-Took.h _ _ (c.in_ok-next.ensures.taken (λ (fs : List item.Found) (h : step.Here). step.does h (saves h.program (referred c.args.types.now) fs c.args.words ++ item.Give c.args.words ∷ []))) c.in-Took.is c.assigns.ensures
