use Rattle.std.proofs.Common.{length}
use Rattle.al_script.proofs.starts.+add_begins.Given as goal

abbrev pub decreases-add_begins : goal.decreases-add_begins
decreases-add_begins l = length l.starts.now
