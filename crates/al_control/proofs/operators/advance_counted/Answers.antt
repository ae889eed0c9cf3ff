use Rattle.std.proofs.Common.{rules, ◌≡◌, ℕ, List, [], ◌∷◌, not, if◌then◌else◌, false}
use Rattle.al_meaning.specs.Here as step
use Rattle.al_meaning.specs.Words.{bits_of, stepped_by}
use Rattle.al_control.proofs.Takings.{goes_on}
use Rattle.al_control.proofs.operators.advance_counted.Goals as goal

pub returns-in_ok-one_word-in-Took : goal.returns-in_ok-one_word-in-Took
returns-in_ok-one_word-in-Took c =
    goes_on c.gives.result _ c.in-Took.both c.in-Took.h _ _ (c.in_ok-next.ensures.taken (λ (a b : List ℕ) (h : step.Here). step.gives h (stepped_by false c.args.size (bits_of b) (bits_of a) ∷ []))) c.in-Took.is (search rules)
