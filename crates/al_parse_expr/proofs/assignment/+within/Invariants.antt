use Rattle.al_parse_expr.proofs.assignment.+within.Given as goal

abbrev pub decreases-within : goal.decreases-within
decreases-within l = l.depth
