use Rattle.al_sound_texts.proofs.Texts.{accepted_is_sound}
use Rattle.al_sound_texts.proofs.law.accepted_texts_are_sound.Goals as goal

pub returns : goal.returns
returns c = accepted_is_sound
