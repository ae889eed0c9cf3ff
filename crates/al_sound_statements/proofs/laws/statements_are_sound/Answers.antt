use Rattle.al_sound_statements.proofs.StatementsAre.{statements_are_sound}
use Rattle.al_sound_statements.proofs.laws.statements_are_sound.Goals as goal

pub returns : goal.returns
returns c = statements_are_sound
