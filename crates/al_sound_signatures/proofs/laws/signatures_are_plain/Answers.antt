use Rattle.al_sound_signatures.proofs.SignaturesAre.{signatures_are_plain}
use Rattle.al_sound_signatures.proofs.laws.signatures_are_plain.Goals as goal

pub returns : goal.returns
returns c = signatures_are_plain
