use Rattle.std.proofs.Common.{length}
use Rattle.al_script.proofs.asks.+add_bytes.Given as goal

abbrev pub decreases-add_bytes : goal.decreases-add_bytes
decreases-add_bytes l = length l.operands.now
