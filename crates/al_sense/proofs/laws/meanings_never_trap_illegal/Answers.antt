use Rattle.al_sense.proofs.Statements.{task_real}
use Rattle.al_sense.proofs.laws.meanings_never_trap_illegal.Goals as goal

pub returns : goal.returns
returns c = λ p n start privates answers. task_real p n start privates answers
