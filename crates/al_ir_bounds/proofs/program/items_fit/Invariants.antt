use Rattle.std.proofs.Common.{◌≡◌, drop}
use Rattle.al_ir_bounds.specs.Checks.{items_fit}
use Rattle.al_ir_bounds.proofs.program.items_fit.Given as goal

abbrev pub invariant-loop-i : goal.invariant-loop-i
invariant-loop-i l = items_fit 0 l.bytes l.items ≡ items_fit l.behind l.bytes (drop l.i-index l.items)
