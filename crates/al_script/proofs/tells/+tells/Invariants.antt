use Rattle.std.proofs.Common.{length}
use Rattle.al_script.proofs.tells.+tells.Given as goal

abbrev pub decreases-tells : goal.decreases-tells
decreases-tells l = length l.messages.now
