use Rattle.std.proofs.Common.{rules, ◌≡◌, ℕ, List, [], ◌∷◌, not, if◌then◌else◌, true}
use Rattle.al_meaning.specs.Here as step
use Rattle.al_meaning.specs.Items as item
use Rattle.al_meaning.specs.Words.{truth, is_zero}
use Rattle.al_control.proofs.Takings.{goes_on}
use Rattle.al_control.proofs.operators.or_else.Goals as goal

pub returns-then-is_zero : goal.returns-then-is_zero
returns-then-is_zero c =
    goes_on c.does_two.result _ c.in-Took.a c.in-Took.h _ _ (c.in_ok-next.ensures.taken (λ (a : List ℕ) (h : step.Here). if is_zero a then step.does h (item.Eval c.args.right.now ∷ item.Truth ∷ []) else step.gives h (truth true))) c.in-Took.is (search rules)

pub returns : goal.returns
returns c =
    goes_on c.gives.result _ c.in-Took.a c.in-Took.h _ _ (c.in_ok-next.ensures.taken (λ (a : List ℕ) (h : step.Here). if is_zero a then step.does h (item.Eval c.args.right.now ∷ item.Truth ∷ []) else step.gives h (truth true))) c.in-Took.is (search rules)
