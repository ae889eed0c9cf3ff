use Rattle.al_sound_shared.proofs.SharedAre.{shared_are_marked}
use Rattle.al_sound_shared.proofs.laws.shared_are_marked.Goals as goal

pub returns : goal.returns
returns c = shared_are_marked
