use Rattle.std.proofs.Common.{length}
use Rattle.al_script.proofs.starts.+add_procs.Given as goal

abbrev pub decreases-add_procs : goal.decreases-add_procs
decreases-add_procs l = length l.starts.now
