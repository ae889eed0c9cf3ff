use Rattle.std.proofs.Common.{length}
use Rattle.al_words.proofs.number.+spelled.Given as goal

abbrev pub decreases-spelled : goal.decreases-spelled
decreases-spelled l = length l.digits.now
