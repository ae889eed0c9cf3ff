use Rattle.al_sound_operators.proofs.PlacesAre.{places_are_sound}
use Rattle.al_sound_operators.proofs.laws.places_are_sound.Goals as goal

pub returns : goal.returns
returns c = places_are_sound
