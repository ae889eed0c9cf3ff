use Rattle.al_tree_laws.proofs.TextsAre.{texts_are_few}
use Rattle.al_tree_laws.proofs.laws.texts_are_few.Goals as goal

pub returns : goal.returns
returns c = texts_are_few
