use Rattle.al_sound_environment.proofs.ConstantsAre.{constants_are_within}
use Rattle.al_sound_environment.proofs.laws.constants_are_within.Goals as goal

pub returns : goal.returns
returns c = constants_are_within
