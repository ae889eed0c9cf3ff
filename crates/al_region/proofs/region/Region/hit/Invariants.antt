use Rattle.al_region.proofs.region.Region.hit.Given as goal

abbrev pub ghosts-hit_in : goal.ghosts-hit_in
ghosts-hit_in a = record { name = a.blank.name; parts = a.blank.parts }
