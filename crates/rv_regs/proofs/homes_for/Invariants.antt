use Rattle.std.proofs.Common.{◌≡◌, length}
use Rattle.rv_regs.proofs.Placing.{Placing}
use Rattle.rv_regs.proofs.homes_for.Given as goal

abbrev pub invariant-loop-slot : goal.invariant-loop-slot
invariant-loop-slot l = (length l.homes ≡ l.slot) × Placing l.ir l.f l.homes l.taken
