use Rattle.al_tree_places.proofs.FewAre.{bodies_are_few}
use Rattle.al_tree_places.proofs.laws.bodies_are_few.Goals as goal

pub returns : goal.returns
returns c = bodies_are_few
