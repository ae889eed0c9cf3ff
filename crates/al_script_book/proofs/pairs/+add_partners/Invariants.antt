use Rattle.std.proofs.Common.{length}
use Rattle.al_script_book.proofs.pairs.+add_partners.Given as goal

abbrev pub decreases-add_partners : goal.decreases-add_partners
decreases-add_partners l = length l.waiting.now
