use Rattle.al_run_tree.specs.Table.{cell}
use Rattle.al_run_tree.proofs.search.+last_to.Given as goal

abbrev pub decreases-last_to : goal.decreases-last_to
decreases-last_to g l = (cell l.nodes.now l.top).height
