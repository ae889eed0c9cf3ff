use Rattle.al_parse_member.proofs.initializers.+initializer.Given as goal

abbrev pub decreases-initializer : goal.decreases-initializer
decreases-initializer l = l.depth
