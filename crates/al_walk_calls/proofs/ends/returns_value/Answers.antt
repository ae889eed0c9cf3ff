use Rattle.std.proofs.Common.{rules, ℕ, List, Some}
use Rattle.al_meaning.specs.Here as step
use Rattle.al_meaning.specs.Calls.{ends}
use Rattle.al_control.proofs.Takings.{goes_on}
use Rattle.al_walk_calls.proofs.ends.returns_value.Goals as goal

pub returns-in-Took : goal.returns-in-Took
returns-in-Took c =
    goes_on c.ends.result _ c.in-Took.words c.in-Took.h _ _ (c.in_ok-next.ensures.taken (λ (ws : List ℕ) (h : step.Here). ends h (Some ws))) c.in-Took.is (search rules)
