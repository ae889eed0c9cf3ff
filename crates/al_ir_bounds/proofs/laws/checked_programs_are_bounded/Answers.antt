use Rattle.al_ir_bounds.proofs.Whole.{bounded}
use Rattle.al_ir_bounds.proofs.laws.checked_programs_are_bounded.Goals as goal

pub returns : goal.returns
returns c = bounded
