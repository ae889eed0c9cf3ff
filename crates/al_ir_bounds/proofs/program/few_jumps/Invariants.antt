use Rattle.std.proofs.Common.{◌≡◌, ◌≤◌, take}
use Rattle.al_ir_bounds.specs.Checks.{jumps_in}
use Rattle.al_ir_bounds.proofs.program.few_jumps.Given as goal

abbrev pub invariant-loop-o : goal.invariant-loop-o
invariant-loop-o l = (l.count ≡ jumps_in (take l.o-index l.code)) × (l.count ≤ 32736)
