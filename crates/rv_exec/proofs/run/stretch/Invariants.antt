use Rattle.std.proofs.Common.{◌≡◌, ◌-◌, ◌*◌, vec_len}
use Rattle.rv_exec.specs.Machine.{ask, longest_stretch}
use Rattle.rv_exec.specs.Seen.{seen, words_of}
use Rattle.rv_exec.specs.Shown.{hart_of, privates_of, bytes_of}
use Rattle.rv_exec.proofs.run.stretch.Given as goal

-- what is asked from here is what is asked from the beginning
abbrev pub invariant-loop-state : goal.invariant-loop-state
invariant-loop-state l = record {
  same : ask l.contents (seen l.state) (words_of l.words.items) ≡ ask l.contents (hart_of l.fn.held.hart) (privates_of l.fn.held.privates);
  bytes : 4 * vec_len l.words ≡ bytes_of l.fn.held.privates;
}

abbrev pub decreases-loop-state : goal.decreases-loop-state
decreases-loop-state l = longest_stretch - l.state.work
