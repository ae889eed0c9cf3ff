use Rattle.std.proofs.Common.{◌≡◌, drop}
use Rattle.rv_regs.specs.Marks.{are_clear}
use Rattle.rv_regs.proofs.marks.are_clear.Given as goal

abbrev pub invariant-loop-b : goal.invariant-loop-b
invariant-loop-b l = (l.pc ≡ l.b-index) × (are_clear l.taken 0 l.busy ≡ are_clear l.taken l.b-index (drop l.b-index l.busy))
