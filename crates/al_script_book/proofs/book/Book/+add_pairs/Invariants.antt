use Rattle.std.proofs.Common.{length}
use Rattle.al_script_book.proofs.book.Book.+add_pairs.Given as goal

abbrev pub decreases-add_pairs : goal.decreases-add_pairs
decreases-add_pairs l = length l.branches.now
