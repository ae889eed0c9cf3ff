use Rattle.rv_isa.proofs.Apart.{one_row}
use Rattle.rv_isa.proofs.one_row_at_most.Goals as goal

pub returns : goal.returns
returns c = one_row
