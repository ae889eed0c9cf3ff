use Rattle.std.proofs.Common.{rules, ◌≡◌, ℕ, List, [], ◌∷◌, ◌++◌, Some, length, false}
use Rattle.al_meaning.specs.Here as step
use Rattle.al_meaning.specs.Items as item
use Rattle.al_meaning.specs.Evaluate.{leaves_of, saves}
use Rattle.al_control.proofs.Takings.{goes_on}
use Rattle.al_walk_places.proofs.targets.assign.Goals as goal

pub returns-in-Took : goal.returns-in-Took
returns-in-Took c =
    goes_on c.assign_words.result _ c.in-Took.words c.in-Took.h _ _ (c.in_ok-next.ensures.taken (λ (ws : List ℕ) (h : step.Here). step.places_before (length (leaves_of c.args.target.now)) [] h (λ fs h. step.does h (saves h.program (leaves_of c.args.target.now) fs ws ++ item.Give ws ∷ [])))) c.in-Took.is c.assign_words.ensures
