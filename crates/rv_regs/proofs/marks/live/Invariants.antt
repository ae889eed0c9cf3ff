use Rattle.std.proofs.Common.{◌≡◌, ◌+◌, false, if◌then◌else◌, length}
use Rattle.rv_regs.specs.Marks.{IsSettled, IsLeast, unmarked}
use Rattle.rv_regs.proofs.marks.live.Given as goal

abbrev pub invariant-loop-going : goal.invariant-loop-going
invariant-loop-going l = record {
  count : length l.live ≡ length l.code;
  least : IsLeast l.ir l.slot l.live l.code;
  settled : l.going ≡ false → IsSettled l.ir l.slot l.live l.code;
}

abbrev pub decreases-loop-going : goal.decreases-loop-going
decreases-loop-going l = unmarked l.live + (if l.going then 1 else 0)
