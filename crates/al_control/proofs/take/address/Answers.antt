use Rattle.std.proofs.Common.{◌≡◌, ◌∙◌, ℕ, ap}
use Rattle.std.proofs.lemmas.Result.{IfOk-weaker}
use Rattle.al_meaning.specs.Here as step
use Rattle.al_control.specs.declared.work.Found.{Found}
use Rattle.al_control.specs.declared.take.Taken.{Taken}
use Rattle.al_control.specs.Models.{found_of}
use Rattle.al_control.specs.Takes.{taken_by}
use Rattle.al_control.proofs.take.address.Goals as goal

pub returns-in-Took-clause-taken : goal.returns-in-Took-clause-taken
returns-in-Took-clause-taken c =
    IfOk-weaker c.address_of.result _ _
    (λ t (e : (k : ℕ → step.Here → step.Next) → _) (k : ℕ → step.Here → step.Next).
    c.in_ok-next.ensures.taken (step.at_address k) ∙ ap (λ (t : Taken Found). taken_by t (λ f at. step.at_address k (found_of f) at)) c.in-Took.is ∙ e k)
    c.address_of.ensures.taken
