use Rattle.al_run_tree.specs.Table.{cell}
use Rattle.al_run_tree.proofs.search.+first_from.Given as goal

abbrev pub decreases-first_from : goal.decreases-first_from
decreases-first_from g l = (cell l.nodes.now l.top).height
