use Rattle.al_region.proofs.region.Region.give.Given as goal

abbrev pub ghosts-give_to : goal.ghosts-give_to
ghosts-give_to a = record { name = a.blank.name; parts = a.blank.parts }
