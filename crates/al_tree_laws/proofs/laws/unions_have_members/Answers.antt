use Rattle.al_tree_laws.proofs.UnionsAre.{unions_have_members}
use Rattle.al_tree_laws.proofs.laws.unions_have_members.Goals as goal

pub returns : goal.returns
returns c = unions_have_members
