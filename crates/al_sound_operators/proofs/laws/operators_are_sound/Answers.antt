use Rattle.al_sound_operators.proofs.CastsAre.{operators_are_sound}
use Rattle.al_sound_operators.proofs.laws.operators_are_sound.Goals as goal

pub returns : goal.returns
returns c = operators_are_sound
