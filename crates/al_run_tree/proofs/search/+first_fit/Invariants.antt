use Rattle.al_run_tree.specs.Table.{cell}
use Rattle.al_run_tree.proofs.search.+first_fit.Given as goal

abbrev pub decreases-first_fit : goal.decreases-first_fit
decreases-first_fit g l = (cell l.nodes.now l.top).height
