use Rattle.al_tree_places.proofs.LawsHold.{entries_are_found}
use Rattle.al_tree_places.proofs.laws.entries_are_found.Goals as goal

pub returns : goal.returns
returns c = entries_are_found
