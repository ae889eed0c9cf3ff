use Rattle.al_run_tree.specs.Table.{cell}
use Rattle.al_run_tree.proofs.search.+find.Given as goal

abbrev pub decreases-find : goal.decreases-find
decreases-find g l = (cell l.nodes.now l.top).height
