use Rattle.al_sound_statements.proofs.StatementsAre.{bodies_are_sound}
use Rattle.al_sound_statements.proofs.laws.bodies_are_sound.Goals as goal

pub returns : goal.returns
returns c = bodies_are_sound
