use Rattle.std.proofs.Common.{◌≡◌, ◌+◌, ◌*◌, length, slice_index}
use Rattle.rv_isa.specs.declared.image.Contents.{Contents}
use Rattle.rv_isa.specs.declared.addresses.TheConstants.{CODE_START}
use Rattle.rv_isa.specs.Micro.{micros_of}
use Rattle.rv_exec.specs.Machine.{ask}
use Rattle.rv_exec.specs.Seen.{seen, words_of}
use Rattle.rv_exec.proofs.state.State.run_straight.Given as goal

-- what is asked at this word, with the work so far, is what was asked from the beginning
abbrev pub invariant-loop-at : goal.invariant-loop-at
invariant-loop-at l = record {
  same : (image : Contents) → l.code ≡ micros_of image.code → image.privates ≡ 4 * length l.privates
      → ask image (record (seen l.self) { pc = CODE_START + 4 * l.at; work = l.work }) (words_of l.privates) ≡ ask image (seen l.fn.self) (words_of l.fn.privates);
  zero : slice_index l.self.registers 32 ≡ 0;
  work : l.work + l.start ≡ l.fn.self.work + l.at;
}
