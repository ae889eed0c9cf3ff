use Rattle.std.proofs.Common.{rules, ◌≡◌, ℕ, List, [], ◌∷◌, ◌++◌, Some, length, false}
use Rattle.al_meaning.specs.Here as step
use Rattle.al_meaning.specs.Items as item
use Rattle.al_control.proofs.Takings.{goes_on}
use Rattle.al_walk_places.proofs.storage.fetched.Goals as goal

pub returns-in_ok-push-in-Took : goal.returns-in_ok-push-in-Took
returns-in_ok-push-in-Took c =
    goes_on c.does.result _ c.in-Took.word c.in-Took.h _ _ (c.in_ok-next.ensures.taken (λ (n : ℕ) (h : step.Here). step.does h (item.Fetch c.args.at c.args.units (c.args.got ++ n ∷ []) ∷ []))) c.in-Took.is (search rules)
