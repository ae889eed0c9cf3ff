use Rattle.std.proofs.Common.{◌≡◌, drop}
use Rattle.al_ir_bounds.specs.Checks.{operations_fit}
use Rattle.al_ir_bounds.proofs.program.operations_fit.Given as goal

abbrev pub invariant-loop-o : goal.invariant-loop-o
invariant-loop-o l = (l.pc ≡ l.o-index) × (operations_fit l.ir l.f 0 l.code ≡ operations_fit l.ir l.f l.o-index (drop l.o-index l.code))
