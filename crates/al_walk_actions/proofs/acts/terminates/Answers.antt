use Rattle.std.proofs.Common.{rules, ℕ, [], ◌∷◌}
use Rattle.al_meaning.specs.Here as step
use Rattle.std.specs.Int.{cast_signed, w32}
use Rattle.al_event.specs.declared.act.Act.TheVariants as act
use Rattle.al_meaning.specs.Items.{Answered}
use Rattle.al_control.proofs.Takings.{goes_on}
use Rattle.al_walk_actions.proofs.acts.terminates.Goals as goal

pub returns-in-Took : goal.returns-in-Took
returns-in-Took c =
    goes_on c.asks.result _ c.in-Took.status c.in-Took.h _ _ (c.in_ok-next.ensures.taken (λ (n : ℕ) (h : step.Here). step.asks h (act.Terminate (cast_signed w32 n)) (Answered ∷ []))) c.in-Took.is (search rules)
