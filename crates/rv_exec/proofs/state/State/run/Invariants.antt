use Rattle.std.proofs.Common.{◌≡◌, ◌-◌, ◌<◌, ◌≤◌, slice_index}
use Rattle.rv_exec.specs.Machine.{ask, longest_stretch}
use Rattle.rv_exec.specs.Seen.{seen, words_of}
use Rattle.rv_exec.proofs.state.State.run.Given as goal

-- what is asked from here is what was asked from the beginning
abbrev pub invariant-loop-self : goal.invariant-loop-self
invariant-loop-self l = record {
  same : ask l.image (seen l.self) (words_of l.privates) ≡ ask l.image (seen l.fn.self) (words_of l.fn.privates);
  zero : slice_index l.self.registers 32 ≡ 0;
  least : l.fn.self.work ≤ l.self.work;
  most : l.self.work < longest_stretch;
}

abbrev pub decreases-loop-self : goal.decreases-loop-self
decreases-loop-self l = longest_stretch - l.self.work
