use Rattle.std.proofs.Common.{length}
use Rattle.al_script_book.proofs.procs.+is_over_live.Given as goal

abbrev pub decreases-is_over_live : goal.decreases-is_over_live
decreases-is_over_live l = length l.procs.now
