use Rattle.std.proofs.Common.{◌≡◌, ℕ, ◌+◌, ◌-◌, ◌≤◌, slice_index, vec_len}
use Rattle.rv_exec.proofs.windows.reach.Given as goal

abbrev pub invariant-loop-words : goal.invariant-loop-words
invariant-loop-words l = record {
  same : (n : ℕ) → slice_index l.words.items n ≡ slice_index l.fn.words.items n;
  grows : vec_len l.fn.words ≤ vec_len l.words;
}

abbrev pub decreases-loop-words : goal.decreases-loop-words
decreases-loop-words l = l.number + 1 - vec_len l.words
