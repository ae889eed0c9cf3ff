use Rattle.std.proofs.Common.{◌≡◌, ◌≤◌, take}
use Rattle.al_ir_bounds.specs.Checks.{start_count}
use Rattle.al_ir_bounds.proofs.program.few_starts.Given as goal

abbrev pub invariant-loop-g : goal.invariant-loop-g
invariant-loop-g l = (l.count ≡ start_count (take l.g-index l.globals)) × (l.count ≤ 2097152)
