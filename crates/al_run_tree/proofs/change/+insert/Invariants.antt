use Rattle.al_run_tree.specs.Table.{cell}
use Rattle.al_run_tree.proofs.change.+insert.Given as goal

abbrev pub decreases-insert : goal.decreases-insert
decreases-insert g l = (cell l.nodes.now l.top).height
