use Rattle.al_sound_runs.proofs.Runs.{blocks_stand}
use Rattle.al_sound_runs.proofs.laws.blocks_of_accepted_texts_stand.Goals as goal

pub returns : goal.returns
returns c = blocks_stand
