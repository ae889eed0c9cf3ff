use Rattle.al_region.proofs.region.Region.next_block.Given as goal

abbrev pub ghosts-next_in : goal.ghosts-next_in
ghosts-next_in a = record { name = a.blank.name; parts = a.blank.parts }
