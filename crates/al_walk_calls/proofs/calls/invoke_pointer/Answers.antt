use Rattle.std.proofs.Common.{rules, ℕ, List}
use Rattle.al_meaning.specs.Here as step
use Rattle.al_meaning.specs.Calls as calls
use Rattle.al_control.proofs.Takings.{goes_on}
use Rattle.al_walk_calls.proofs.calls.invoke_pointer.Goals as goal

pub returns-in_ok-words-in-Took : goal.returns-in_ok-words-in-Took
returns-in_ok-words-in-Took c =
    goes_on c.invokes_found.result _ c.in-Took.values c.in-Took.h _ _ (c.in_ok-next.ensures.taken (λ (values : List (List ℕ)) (h : step.Here). step.with_word h (λ (n : ℕ) (h : step.Here). calls.invokes_found h (calls.joined values) (calls.named_by (step.pointee c.args.ty.now) n 0 h.program.functions)))) c.in-Took.is (search rules)
