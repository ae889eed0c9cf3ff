use Rattle.rv_exec.proofs.Results.{ok_then}
use Rattle.rv_exec.proofs.state.State.store.Goals as goal

pub returns-in-Stack-clause-asked : goal.returns-in-Stack-clause-asked
returns-in-Stack-clause-asked c = rw (← c.window_of.ensures, c.in-Stack.is) (ok_then c.store_stack.result _ _ (λ asked h. h 0 _) c.store_stack.ensures.asked)

pub returns-in-Shared-clause-asked : goal.returns-in-Shared-clause-asked
returns-in-Shared-clause-asked c = rw (← c.window_of.ensures, c.in-Shared.is) (c.store_shared.ensures.asked 0 _)
