use Rattle.std.proofs.Common.{rules, ℕ, List}
use Rattle.al_meaning.specs.Here as step
use Rattle.al_meaning.specs.Calls.{invokes, joined}
use Rattle.al_control.proofs.Takings.{goes_on}
use Rattle.al_walk_calls.proofs.calls.invoke.Goals as goal

pub returns-in_ok-words-in-Took : goal.returns-in_ok-words-in-Took
returns-in_ok-words-in-Took c =
    goes_on c.invokes.result _ c.in-Took.values c.in-Took.h _ _ (c.in_ok-next.ensures.taken (λ (values : List (List ℕ)) (h : step.Here). invokes h c.args.function (joined values))) c.in-Took.is (search rules)
