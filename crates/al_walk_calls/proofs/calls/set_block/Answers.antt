use Rattle.std.proofs.Common.{rules, ℕ}
use Rattle.al_meaning.specs.Here as step
use Rattle.al_control.proofs.Takings.{goes_on}
use Rattle.al_walk_calls.proofs.calls.set_block.Goals as goal

pub returns-in-Took : goal.returns-in-Took
returns-in-Took c =
    goes_on c.moves.result _ c.in-Took.at c.in-Took.h _ _ (c.in_ok-next.ensures.taken (λ (n : ℕ) (h : step.Here). step.moves (record h { frame = record h.frame { block = n } }))) c.in-Took.is (search rules)
