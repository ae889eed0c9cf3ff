use Rattle.al_check.specs.Checked.{with_bodies}
use Rattle.al_check.proofs.checked.with_bodies.Goals as goal

pub returns-clause-answer : goal.returns-clause-answer
unfolding with_bodies
returns-clause-answer c = rw (← c.len.ensures, c.in_ok-b.ensures) c.whole.ensures.answer
