use Rattle.al_parse_block.proofs.rules.+within.Given as goal

abbrev pub decreases-within : goal.decreases-within
decreases-within l = l.depth
