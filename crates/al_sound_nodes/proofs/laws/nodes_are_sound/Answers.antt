use Rattle.al_sound_nodes.proofs.NodesAre.{nodes_are_sound}
use Rattle.al_sound_nodes.proofs.laws.nodes_are_sound.Goals as goal

pub returns : goal.returns
returns c = nodes_are_sound
