use Rattle.al_run_tree.specs.Table.{cell}
use Rattle.al_run_tree.proofs.change.+take_out.Given as goal

abbrev pub decreases-take_out : goal.decreases-take_out
decreases-take_out g l = (cell l.nodes.now l.top).height
