use Rattle.std.proofs.Common.{rules, ◌≡◌, ℕ, List, [], ◌∷◌, ◌++◌, Some, length, false}
use Rattle.al_meaning.specs.Here as step
use Rattle.al_meaning.specs.Items as item
use Rattle.al_control.proofs.Takings.{goes_on}
use Rattle.al_walk_places.proofs.storage.look.Goals as goal

pub returns-in-Took : goal.returns-in-Took
returns-in-Took c =
    goes_on c.look_at.result _ c.in-Took.found c.in-Took.h _ _ (c.in_ok-next.ensures.taken (λ (f : item.Found) (h : step.Here). step.moves (step.with_work (item.Read c.args.ty.now ∷ []) (step.with_found (f ∷ f ∷ h.frame.found) h)))) c.in-Took.is c.look_at.ensures
