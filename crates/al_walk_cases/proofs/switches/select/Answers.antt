use Rattle.std.proofs.Common.{rules, ℕ, List}
use Rattle.al_meaning.specs.Here as step
use Rattle.al_meaning.specs.Execute.{select}
use Rattle.al_meaning.specs.Words.{bits_of}
use Rattle.al_control.proofs.Takings.{goes_on}
use Rattle.al_walk_cases.proofs.switches.select.Goals as goal

pub returns-in-Took : goal.returns-in-Took
returns-in-Took c =
    goes_on c.select_for.result _ c.in-Took.words c.in-Took.h _ _ (c.in_ok-next.ensures.taken (λ (words : List ℕ) (h : step.Here). select c.args.s.now (bits_of words) h)) c.in-Took.is (search rules)
