use Rattle.std.proofs.Common.{◌≡◌, ◌∙◌, ℕ, List, sym}
use Rattle.std.proofs.lemmas.Result.{IfOk-weaker}
use Rattle.al_meaning.specs.Here as step
use Rattle.al_control.specs.Models.{here_of}
use Rattle.al_control.specs.Takes.{taken_by}
use Rattle.al_control.proofs.Takings.{value_there, no_value}
use Rattle.al_control.proofs.take.value.Goals as goal

pub returns-in_ok-lost-in-None-clause-taken : goal.returns-in_ok-lost-in-None-clause-taken
returns-in_ok-lost-in-None-clause-taken c =
    λ k. no_value c.args.h c.pop.new.self k c.in-None.ensures.0 c.in-None.ensures.1 ∙ sym c.in_ok-lost-in-None.ensures

pub returns-in-Some-clause-taken : goal.returns-in-Some-clause-taken
returns-in-Some-clause-taken c =
    IfOk-weaker c.value_of.result _ _
    (λ t (e : (k : List ℕ → step.Here → step.Next) → _) (k : List ℕ → step.Here → step.Next). value_there c.args.h c.in-Some.found c.pop.new.self k c.in-Some.ensures ∙ e k)
    c.value_of.ensures.taken
