use Rattle.std.proofs.Common.{◌≡◌, ◌≤◌, take}
use Rattle.al_ir_bounds.specs.Checks.{count_of}
use Rattle.al_ir_bounds.proofs.parts.few_of.Given as goal

abbrev pub invariant-loop-run : goal.invariant-loop-run
invariant-loop-run l = (l.count ≡ count_of (take l.run-index l.runs)) × (l.count ≤ 1024)
