use Rattle.std.proofs.Common.{length}
use Rattle.al_script_book.proofs.offers.+add_offers.Given as goal

abbrev pub decreases-add_offers : goal.decreases-add_offers
decreases-add_offers l = length l.branches.now
