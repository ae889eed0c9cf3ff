use Rattle.std.proofs.Common.{rules, ℕ, List, [], ◌∷◌}
use Rattle.al_meaning.specs.Here as step
use Rattle.al_meaning.specs.Calls.{gives_block, joined, only}
use Rattle.al_meaning.specs.Items.{Replace}
use Rattle.al_control.proofs.Takings.{goes_on}
use Rattle.al_walk_calls.proofs.calls.invoke_instead.Goals as goal

pub returns-in_ok-words-in-Took : goal.returns-in_ok-words-in-Took
returns-in_ok-words-in-Took c =
    goes_on c.replaces.result _ c.in-Took.values c.in-Took.h _ _ (c.in_ok-next.ensures.taken (λ (values : List (List ℕ)) (h : step.Here). gives_block h (Replace c.args.function (joined values) ∷ []) (step.moves (only h (Replace c.args.function (joined values) ∷ []))))) c.in-Took.is (search rules)
