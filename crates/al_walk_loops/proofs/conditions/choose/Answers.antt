use Rattle.std.proofs.Common.{rules, ℕ, List, if◌then◌else◌}
use Rattle.al_meaning.specs.Here as step
use Rattle.al_meaning.specs.Execute.{starts, starts_other}
use Rattle.al_meaning.specs.Words.{is_zero}
use Rattle.al_control.proofs.Takings.{goes_on}
use Rattle.al_walk_loops.proofs.conditions.choose.Goals as goal

pub returns-in-Took : goal.returns-in-Took
returns-in-Took c =
    goes_on c.choose_goes.result _ c.in-Took.a c.in-Took.h _ _ (c.in_ok-next.ensures.taken (λ (a : List ℕ) (h : step.Here). if is_zero a then starts_other h c.args.other.now else starts h c.args.chosen.now)) c.in-Took.is (search rules)
