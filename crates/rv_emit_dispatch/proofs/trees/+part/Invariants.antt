use Rattle.rv_emit_dispatch.proofs.trees.+part.Given as goal

abbrev pub decreases-part : goal.decreases-part
decreases-part l = l.bits
