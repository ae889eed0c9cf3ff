use Rattle.al_sound_environment.proofs.TellsAre.{environment_tells}
use Rattle.al_sound_environment.proofs.laws.environment_tells.Goals as goal

pub returns : goal.returns
returns c = environment_tells
