use Rattle.std.proofs.Common.{◌≡◌, ◌++◌, drop}
use Rattle.al_lower_code.specs.Moving.{constants}
use Rattle.al_lower_base.proofs.code.constants.Given as goal

abbrev pub invariant-loop-word : goal.invariant-loop-word
invariant-loop-word l = l.code ++ constants l.line l.into (drop l.word-index l.words) ≡ l.fn.code ++ constants l.line l.to l.words
