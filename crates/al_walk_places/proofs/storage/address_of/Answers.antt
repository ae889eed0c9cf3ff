use Rattle.std.proofs.Common.{rules, ◌≡◌, ℕ, List, [], ◌∷◌, ◌++◌, Some, length, false}
use Rattle.al_meaning.specs.Here as step
use Rattle.al_control.proofs.Takings.{goes_on}
use Rattle.al_walk_places.proofs.Losses.{stays_lost}
use Rattle.al_walk_places.proofs.storage.address_of.Goals as goal

pub returns-in_ok-words-in-Took : goal.returns-in_ok-words-in-Took
returns-in_ok-words-in-Took c =
    goes_on c.gives.result _ c.in-Took.at c.in-Took.h _ _ (c.in_ok-next.ensures.taken (λ (n : ℕ) (h : step.Here). step.gives h (n ∷ []))) c.in-Took.is (search rules)

pub returns-in-Lost : goal.returns-in-Lost
returns-in-Lost c = stays_lost _ c.in-Lost.next _ _ (c.in_ok-next.ensures.taken (λ (n : ℕ) (h : step.Here). step.gives h (n ∷ []))) c.in-Lost.is
