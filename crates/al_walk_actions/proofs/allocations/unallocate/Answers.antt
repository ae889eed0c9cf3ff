use Rattle.std.proofs.Common.{rules, ℕ}
use Rattle.al_meaning.specs.Here as step
use Rattle.al_typed.specs.declared.ty.Ty.{out-Ty}
use Rattle.al_meaning.specs.Evaluate.{gives_back}
use Rattle.al_control.proofs.Takings.{goes_on}
use Rattle.al_walk_actions.proofs.allocations.unallocate.Goals as goal

pub returns-in-Took : goal.returns-in-Took
returns-in-Took c =
    goes_on c.gives_back.result _ c.in-Took.value c.in-Took.h _ _ (c.in_ok-next.ensures.taken (λ (n : ℕ) (h : step.Here). gives_back (out-Ty c.args.ty.now) n h)) c.in-Took.is (search rules)
