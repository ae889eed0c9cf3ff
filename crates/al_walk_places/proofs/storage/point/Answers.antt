use Rattle.std.proofs.Common.{rules, ◌≡◌, ℕ, List, [], ◌∷◌, ◌++◌, Some, length, false}
use Rattle.al_meaning.specs.Here as step
use Rattle.al_meaning.specs.Items as item
use Rattle.al_meaning.specs.Words.{sum}
use Rattle.al_control.proofs.Takings.{goes_on}
use Rattle.al_walk_places.proofs.storage.point.Goals as goal

pub returns-in-Took : goal.returns-in-Took
returns-in-Took c =
    goes_on c.finds.result _ c.in-Took.at c.in-Took.h _ _ (c.in_ok-next.ensures.taken (λ (n : ℕ) (h : step.Here). step.finds h (item.Address (sum n c.args.offset)))) c.in-Took.is (search rules)
