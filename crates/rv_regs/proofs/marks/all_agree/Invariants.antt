use Rattle.std.proofs.Common.{◌≡◌, drop}
use Rattle.rv_regs.specs.Marks.{all_agree}
use Rattle.rv_regs.proofs.marks.all_agree.Given as goal

abbrev pub invariant-loop-o : goal.invariant-loop-o
invariant-loop-o l = (l.pc ≡ l.o-index) × (all_agree l.ir l.slot l.live 0 l.code ≡ all_agree l.ir l.slot l.live l.o-index (drop l.o-index l.code))
