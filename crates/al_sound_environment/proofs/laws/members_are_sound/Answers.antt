use Rattle.al_sound_environment.proofs.MembersAre.{members_are_sound}
use Rattle.al_sound_environment.proofs.laws.members_are_sound.Goals as goal

pub returns : goal.returns
returns c = members_are_sound
