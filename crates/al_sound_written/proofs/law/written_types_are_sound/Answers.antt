use Rattle.al_sound_written.proofs.Sound.{written_are_sound}
use Rattle.al_sound_written.proofs.law.written_types_are_sound.Goals as goal

pub returns : goal.returns
returns c = written_are_sound
