use Rattle.std.proofs.Common.{◌≡◌, ◌+◌, ◌∷◌, take, length}
use Rattle.al_core.proofs.talks.answer_of.Given as goal

abbrev pub invariant-loop-k : goal.invariant-loop-k
invariant-loop-k l = record {
  front : take (l.k + 1) l.words ≡ l.branch ∷ take l.k l.got;
  size : length l.words ≡ 1025;
}
