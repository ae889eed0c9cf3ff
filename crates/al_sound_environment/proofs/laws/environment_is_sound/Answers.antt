use Rattle.al_sound_environment.proofs.WholeIs.{environment_is_sound}
use Rattle.al_sound_environment.proofs.laws.environment_is_sound.Goals as goal

pub returns : goal.returns
returns c = environment_is_sound
