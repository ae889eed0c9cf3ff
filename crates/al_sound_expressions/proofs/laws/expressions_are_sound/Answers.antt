use Rattle.al_sound_expressions.proofs.TreesAre.{expressions_are_sound}
use Rattle.al_sound_expressions.proofs.laws.expressions_are_sound.Goals as goal

pub returns : goal.returns
returns c = expressions_are_sound
