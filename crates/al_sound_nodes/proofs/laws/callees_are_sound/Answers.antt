use Rattle.al_sound_nodes.proofs.CalleesAre.{callees_are_sound}
use Rattle.al_sound_nodes.proofs.laws.callees_are_sound.Goals as goal

pub returns : goal.returns
returns c = callees_are_sound
