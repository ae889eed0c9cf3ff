use Rattle.al_run_tree.specs.Table.{cell}
use Rattle.al_run_tree.proofs.change.+first_out.Given as goal

abbrev pub decreases-first_out : goal.decreases-first_out
decreases-first_out g l = (cell l.nodes.now l.top).height
