use Rattle.std.proofs.Common.{rules, ◌≡◌, ℕ, List, [], ◌∷◌, not, if◌then◌else◌}
use Rattle.al_meaning.specs.Here as step
use Rattle.al_meaning.specs.Words.{operated_once}
use Rattle.al_control.proofs.Takings.{goes_on}
use Rattle.al_control.proofs.operators.unary.Goals as goal

pub returns-in_ok-words-in-Took : goal.returns-in_ok-words-in-Took
returns-in_ok-words-in-Took c =
    goes_on c.gives.result _ c.in-Took.a c.in-Took.h _ _ (c.in_ok-next.ensures.taken (λ (a : List ℕ) (h : step.Here). step.gives h (operated_once c.args.op c.args.kind a))) c.in-Took.is (search rules)
