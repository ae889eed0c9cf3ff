use Rattle.al_sound_runs.proofs.Runs.{have_addresses, never_stuck}
use Rattle.al_sound_runs.proofs.laws.accepted_texts_are_never_stuck.Goals as goal

pub returns-clause-sense : goal.returns-clause-sense
returns-clause-sense c = never_stuck c.tasks_are_never_stuck.ensures

pub returns-clause-addresses : goal.returns-clause-addresses
returns-clause-addresses c = have_addresses c.opened_programs_have_addresses.ensures
