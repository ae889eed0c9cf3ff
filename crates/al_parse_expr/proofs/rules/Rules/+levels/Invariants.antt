use Rattle.al_parse_expr.proofs.rules.Rules.+levels.Given as goal

abbrev pub decreases-levels : goal.decreases-levels
decreases-levels g l = l.below
