use Rattle.std.proofs.Common.{rules, ℕ}
use Rattle.al_meaning.specs.Here as step
use Rattle.al_meaning.specs.Calls as calls
use Rattle.al_control.proofs.Takings.{goes_on}
use Rattle.al_walk_calls.proofs.calls.invokes_found.Goals as goal

pub returns-in-Took : goal.returns-in-Took
returns-in-Took c =
    goes_on c.invokes_named.result _ c.in-Took.name c.in-Took.h _ _ (c.in_ok-next.ensures.taken (λ (n : ℕ) (h : step.Here). calls.invokes_found h c.args.words (calls.named_by (step.pointee c.args.ty.now) n 0 h.program.functions))) c.in-Took.is (search rules)
