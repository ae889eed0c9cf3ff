use Rattle.std.proofs.Common.{rules, ℕ, ◌∙◌, ap, sym}
use Rattle.al_meaning.specs.Here as step
use Rattle.al_meaning.specs.Evaluate.{passes_place}
use Rattle.al_meaning.specs.Words.{sum}
use Rattle.al_control.specs.declared.take.Taken.{Taken}
use Rattle.al_control.specs.Takes.{taken_by}
use Rattle.al_control.proofs.Takings.{goes_on}
use Rattle.al_walk_calls.proofs.passes.pass_place.Goals as goal

pub returns-in-Lost : goal.returns-in-Lost
returns-in-Lost c =
    let k = λ (n : ℕ) (h : step.Here). passes_place c.args.passed c.args.ty.now (sum n c.args.offset) h in
    sym (c.in_ok-next.ensures.taken k ∙ ap (λ (t : Taken ℕ). taken_by t k) c.in-Lost.is)

pub returns-in-Took : goal.returns-in-Took
returns-in-Took c =
    goes_on c.passes_place.result _ c.in-Took.at c.in-Took.h _ _
    (c.in_ok-next.ensures.taken (λ (n : ℕ) (h : step.Here). passes_place c.args.passed c.args.ty.now (sum n c.args.offset) h))
    c.in-Took.is (search rules)
