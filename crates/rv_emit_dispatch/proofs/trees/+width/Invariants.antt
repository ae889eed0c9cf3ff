use Rattle.rv_emit_dispatch.proofs.trees.+width.Given as goal

abbrev pub decreases-width : goal.decreases-width
decreases-width l = l.bits
