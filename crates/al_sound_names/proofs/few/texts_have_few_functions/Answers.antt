use Rattle.al_sound_names.proofs.FewAre.{few_functions}
use Rattle.al_sound_names.proofs.few.texts_have_few_functions.Goals as goal

pub returns : goal.returns
returns c = few_functions
