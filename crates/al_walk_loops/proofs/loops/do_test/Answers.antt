use Rattle.std.proofs.Common.{rules, ℕ, List, if◌then◌else◌}
use Rattle.al_meaning.specs.Here as step
use Rattle.al_meaning.specs.Items as item
use Rattle.al_meaning.specs.Step.{step_work}
use Rattle.al_meaning.specs.Words.{is_zero}
use Rattle.al_control.proofs.Takings.{goes_on}
use Rattle.al_walk_loops.proofs.loops.do_test.Goals as goal

pub returns-in-Took : goal.returns-in-Took
returns-in-Took c =
    goes_on c.do_goes.result _ c.in-Took.a c.in-Took.h _ _ (c.in_ok-next.ensures.taken (λ (a : List ℕ) (h : step.Here). if is_zero a then step.moves h else step_work (item.WhileAgain c.args.s.now) h)) c.in-Took.is (search rules)
