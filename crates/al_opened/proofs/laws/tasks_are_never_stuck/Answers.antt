use Rattle.al_opened.proofs.Going.{have_sense}
use Rattle.al_opened.proofs.laws.tasks_are_never_stuck.Goals as goal

pub returns : goal.returns
returns c = have_sense c.lowering_keeps_the_meaning.ensures.addressed c.lowering_keeps_the_meaning.ensures.lowered c.lowering_keeps_the_meaning.ensures.main
