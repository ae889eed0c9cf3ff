use Rattle.al_sound_programs.proofs.SoundPrograms.{programs_are_sound}
use Rattle.al_sound_programs.proofs.laws.programs_are_sound.Goals as goal

pub returns : goal.returns
returns c = programs_are_sound
