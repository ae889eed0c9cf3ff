use Rattle.al_sound_statements.proofs.StatementsAre.{bodies_are_named}
use Rattle.al_sound_statements.proofs.laws.bodies_are_named.Goals as goal

pub returns : goal.returns
returns c = bodies_are_named
