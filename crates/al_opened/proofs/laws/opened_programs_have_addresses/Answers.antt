use Rattle.al_opened.proofs.Going.{have_addresses}
use Rattle.al_opened.proofs.laws.opened_programs_have_addresses.Goals as goal

pub returns : goal.returns
returns c = have_addresses c.lowering_keeps_the_meaning.ensures.addressed
