use Rattle.al_sound_statements.proofs.TypesGathered.{types_are_gathered}
use Rattle.al_sound_statements.proofs.laws.types_are_gathered.Goals as goal

pub returns : goal.returns
returns c = types_are_gathered
