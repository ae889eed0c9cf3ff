use Rattle.al_script.proofs.fits.+add_cut.Given as goal

abbrev pub decreases-add_cut : goal.decreases-add_cut
decreases-add_cut l = l.count
