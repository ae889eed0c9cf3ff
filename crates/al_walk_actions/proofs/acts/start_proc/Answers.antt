use Rattle.std.proofs.Common.{rules, ℕ, List, [], ◌∷◌}
use Rattle.al_meaning.specs.Here as step
use Rattle.al_event.specs.declared.act.Act.TheVariants as act
use Rattle.al_meaning.specs.Calls.{joined}
use Rattle.al_meaning.specs.Items.{Answered}
use Rattle.al_control.proofs.Takings.{goes_on}
use Rattle.al_walk_actions.proofs.acts.start_proc.Goals as goal

pub returns-in_ok-words-in-Took : goal.returns-in_ok-words-in-Took
returns-in_ok-words-in-Took c =
    goes_on c.asks.result _ c.in-Took.values c.in-Took.h _ _ (c.in_ok-next.ensures.taken (λ (values : List (List ℕ)) (h : step.Here). step.asks h (act.Proc (record { code = c.args.function; words = joined values })) (Answered ∷ []))) c.in-Took.is (search rules)
