use Rattle.al_tree_laws.proofs.CountsAre.{declared_are_few}
use Rattle.al_tree_laws.proofs.laws.declared_are_few.Goals as goal

pub returns : goal.returns
returns c = declared_are_few
