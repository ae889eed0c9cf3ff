use Rattle.std.proofs.Common.{rules, ◌≡◌, ℕ, List, [], ◌∷◌, not, if◌then◌else◌}
use Rattle.al_meaning.specs.Here as step
use Rattle.al_meaning.specs.Step.{gives_quotient}
use Rattle.al_meaning.specs.Words.{operated}
use Rattle.al_control.proofs.Takings.{goes_on}
use Rattle.al_control.proofs.operators.binary.Goals as goal

pub returns-in-Some : goal.returns-in-Some
returns-in-Some c =
    goes_on c.gives.result _ c.in-Took.both c.in-Took.h _ _ (c.in_ok-next.ensures.taken (λ (a b : List ℕ) (h : step.Here). gives_quotient h (operated c.args.op c.args.kind a b))) c.in-Took.is (search rules)

pub returns : goal.returns
returns c =
    goes_on c.traps.result _ c.in-Took.both c.in-Took.h _ _ (c.in_ok-next.ensures.taken (λ (a b : List ℕ) (h : step.Here). gives_quotient h (operated c.args.op c.args.kind a b))) c.in-Took.is (search rules)
