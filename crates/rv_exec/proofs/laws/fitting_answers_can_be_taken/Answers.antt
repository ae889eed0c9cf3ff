use Rattle.rv_exec.proofs.Fitting.{can_answer}
use Rattle.rv_exec.proofs.laws.fitting_answers_can_be_taken.Goals as goal

pub returns : goal.returns
returns c = can_answer
