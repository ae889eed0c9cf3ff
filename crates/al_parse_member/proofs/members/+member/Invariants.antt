use Rattle.al_parse_member.proofs.members.+member.Given as goal

abbrev pub decreases-member : goal.decreases-member
decreases-member l = l.depth
