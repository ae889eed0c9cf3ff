use Rattle.std.proofs.Common.{rules, ℕ, List}
use Rattle.al_meaning.specs.Here as step
use Rattle.al_meaning.specs.Execute.{for_test}
use Rattle.al_meaning.specs.Words.{is_zero}
use Rattle.al_control.proofs.Takings.{goes_on}
use Rattle.al_walk_loops.proofs.loops.for_test.Goals as goal

pub returns-in-Took : goal.returns-in-Took
returns-in-Took c =
    goes_on c.for_goes.result _ c.in-Took.a c.in-Took.h _ _ (c.in_ok-next.ensures.taken (λ (a : List ℕ) (h : step.Here). for_test c.args.s.now (is_zero a) h)) c.in-Took.is (search rules)
