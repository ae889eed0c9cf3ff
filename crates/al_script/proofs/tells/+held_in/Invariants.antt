use Rattle.std.proofs.Common.{length}
use Rattle.al_script.proofs.tells.+held_in.Given as goal

abbrev pub decreases-held_in : goal.decreases-held_in
decreases-held_in l = length l.tasks.now
