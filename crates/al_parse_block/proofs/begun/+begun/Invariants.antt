use Rattle.al_parse_block.proofs.begun.+begun.Given as goal

abbrev pub decreases-begun : goal.decreases-begun
decreases-begun l = l.depth
