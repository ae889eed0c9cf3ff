use Rattle.std.proofs.Common.{rules, ℕ, List}
use Rattle.al_meaning.specs.Here as step
use Rattle.al_control.proofs.Takings.{goes_on}
use Rattle.al_walk_calls.proofs.passes.passes_nothing.Goals as goal

pub returns : goal.returns
returns c =
    goes_on c.moves.result _ _ c.in-Took.h _ _ (c.in_ok-next.ensures.taken (λ (ws : List ℕ) (h : step.Here). step.moves h)) c.in-Took.is (search rules)
