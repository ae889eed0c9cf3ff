use Rattle.al_sound_flow.proofs.FlowIs.{numbers_differ}
use Rattle.al_sound_flow.proofs.laws.numbers_differ.Goals as goal

pub returns : goal.returns
returns c = numbers_differ
