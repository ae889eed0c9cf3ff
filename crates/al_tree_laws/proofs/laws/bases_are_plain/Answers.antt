use Rattle.al_tree_laws.proofs.BasesAre.{bases_are_plain}
use Rattle.al_tree_laws.proofs.laws.bases_are_plain.Goals as goal

pub returns : goal.returns
returns c = bases_are_plain
