use Rattle.std.proofs.Common.{length}
use Rattle.al_script_book.proofs.offers.+add_others.Given as goal

abbrev pub decreases-add_others : goal.decreases-add_others
decreases-add_others l = length l.waiting.now
