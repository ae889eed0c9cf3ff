use Rattle.rv_regs.specs.Widening.{AreNone}
use Rattle.rv_regs.proofs.marks.no_marks.Given as goal

abbrev pub invariant-loop : goal.invariant-loop
invariant-loop l = AreNone l.counter l.live
