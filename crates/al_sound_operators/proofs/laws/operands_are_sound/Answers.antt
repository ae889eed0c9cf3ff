use Rattle.al_sound_operators.proofs.OperandsAre.{operands_are_sound}
use Rattle.al_sound_operators.proofs.laws.operands_are_sound.Goals as goal

pub returns : goal.returns
returns c = operands_are_sound
