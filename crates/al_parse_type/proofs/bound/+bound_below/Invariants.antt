use Rattle.al_parse_type.proofs.bound.+bound_below.Given as goal

abbrev pub decreases-bound_below : goal.decreases-bound_below
decreases-bound_below l = l.depth
