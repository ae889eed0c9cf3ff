use Rattle.std.proofs.Common.{◌≡◌, ℕ, slice_index, take}
use Rattle.rv_exec.specs.Windows.{put_words}
use Rattle.rv_exec.specs.Seen.{words_of}
use Rattle.rv_exec.proofs.resuming.put_words.Given as goal

-- the words so far are there
abbrev pub invariant-loop-k : goal.invariant-loop-k
invariant-loop-k l = (n : ℕ) → slice_index l.slots n ≡ put_words (words_of l.fn.slots) l.first (take l.k l.words) n
