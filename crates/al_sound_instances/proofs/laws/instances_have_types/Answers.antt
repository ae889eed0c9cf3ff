use Rattle.al_sound_instances.proofs.TextsAre.{instances_have_types}
use Rattle.al_sound_instances.proofs.laws.instances_have_types.Goals as goal

pub returns : goal.returns
returns c = instances_have_types
