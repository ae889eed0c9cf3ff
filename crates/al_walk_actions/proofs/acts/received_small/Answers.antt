use Rattle.std.proofs.Common.{rules, ℕ, List, drop}
use Rattle.al_meaning.specs.Here as step
use Rattle.al_meaning.specs.Words.{fitted_to}
use Rattle.al_control.proofs.Takings.{goes_on}
use Rattle.al_walk_actions.proofs.acts.received_small.Goals as goal

pub returns-in_ok-words-in-Took : goal.returns-in_ok-words-in-Took
returns-in_ok-words-in-Took c =
    goes_on c.gives.result _ c.in-Took.answer c.in-Took.h _ _ (c.in_ok-next.ensures.taken (λ (ws : List ℕ) (h : step.Here). step.gives h (fitted_to (step.units_in h.program c.args.ty.now) (drop 1 ws)))) c.in-Took.is (search rules)
