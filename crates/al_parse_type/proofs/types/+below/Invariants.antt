use Rattle.al_parse_type.proofs.types.+below.Given as goal

abbrev pub decreases-below : goal.decreases-below
decreases-below l = l.depth
