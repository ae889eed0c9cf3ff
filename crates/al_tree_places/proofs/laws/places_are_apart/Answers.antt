use Rattle.al_tree_places.proofs.LawsHold.{places_are_apart}
use Rattle.al_tree_places.proofs.laws.places_are_apart.Goals as goal

pub returns : goal.returns
returns c = places_are_apart
