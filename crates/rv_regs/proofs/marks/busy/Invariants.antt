use Rattle.std.proofs.Common.{◌≡◌, ◌++◌, drop}
use Rattle.rv_regs.specs.Marks.{busy_from, busy_of}
use Rattle.rv_regs.proofs.marks.busy.Given as goal

abbrev pub invariant-loop-o : goal.invariant-loop-o
invariant-loop-o l = (l.pc ≡ l.o-index) × (l.busy ++ busy_from l.ir l.slot l.live l.o-index l.wrote (drop l.o-index l.f.code) ≡ busy_of l.ir l.f l.slot l.live)
