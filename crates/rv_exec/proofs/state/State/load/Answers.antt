use Rattle.rv_exec.proofs.state.State.load.Goals as goal

pub returns-in-Stack-clause-asked : goal.returns-in-Stack-clause-asked
returns-in-Stack-clause-asked c = rw (← c.window_of.ensures, c.in-Stack.is) (c.load_stack.ensures.asked 0 _)

pub returns-in-Shared-clause-asked : goal.returns-in-Shared-clause-asked
returns-in-Shared-clause-asked c = rw (← c.window_of.ensures, c.in-Shared.is) (c.load_shared.ensures.asked 0 _)
