use Rattle.std.proofs.Common.{rules, ℕ, List, if◌then◌else◌}
use Rattle.al_meaning.specs.Here as step
use Rattle.al_base.specs.declared.trap.Trap.TheVariants as trap
use Rattle.al_meaning.specs.Words.{is_zero}
use Rattle.al_control.proofs.Takings.{goes_on}
use Rattle.al_walk_loops.proofs.conditions.test.Goals as goal

pub returns-in-Took : goal.returns-in-Took
returns-in-Took c =
    goes_on c.test_goes.result _ c.in-Took.a c.in-Took.h _ _ (c.in_ok-next.ensures.taken (λ (a : List ℕ) (h : step.Here). if is_zero a then step.traps h trap.Check else step.moves h)) c.in-Took.is (search rules)
