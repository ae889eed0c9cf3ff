use Rattle.al_front.proofs.Laws.{one_program, never_both}
use Rattle.al_front.proofs.law.acceptance_laws.Goals as goal

pub returns : goal.returns
returns c = record { one_program = one_program; never_both = never_both }
