use Rattle.al_lowered.proofs.Chain.{simulates, never_stuck}
use Rattle.al_lowered.proofs.laws.lowered_programs_run_alike.Goals as goal

pub returns-clause-alike : goal.returns-clause-alike
returns-clause-alike c = λ p ir start lowered known. simulates p ir lowered start known

pub returns-clause-sense : goal.returns-clause-sense
returns-clause-sense c = λ p ir n start u answers lowered known private good. never_stuck p ir lowered n start u answers known private good
