use Rattle.al_sound_names.proofs.ProgramsAre.{accepted_are_well_typed}
use Rattle.al_sound_names.proofs.law.accepted_texts_are_well_typed.Goals as goal

pub returns : goal.returns
returns c = accepted_are_well_typed
