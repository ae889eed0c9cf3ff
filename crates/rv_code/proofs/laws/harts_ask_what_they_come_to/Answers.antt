use Rattle.rv_code.proofs.Leading.{it_asks}
use Rattle.rv_code.proofs.laws.harts_ask_what_they_come_to.Goals as goal

pub returns : goal.returns
returns c = λ image h p a small near jumps work comes. it_asks image small near jumps work comes
