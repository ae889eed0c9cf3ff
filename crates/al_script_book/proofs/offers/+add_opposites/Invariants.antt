use Rattle.std.proofs.Common.{length}
use Rattle.al_script_book.proofs.offers.+add_opposites.Given as goal

abbrev pub decreases-add_opposites : goal.decreases-add_opposites
decreases-add_opposites l = length l.waiting.now
