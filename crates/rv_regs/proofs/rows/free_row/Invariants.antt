use Rattle.std.proofs.Common.{◌≡◌, ℕ, ◌<◌, false}
use Rattle.rv_regs.specs.Marks.{are_clear}
use Rattle.rv_regs.specs.Rows.{row}
use Rattle.rv_regs.proofs.rows.free_row.Given as goal

abbrev pub invariant-loop-k : goal.invariant-loop-k
invariant-loop-k l = (j : ℕ) → j < l.k → are_clear (row l.taken j) 0 l.busy ≡ false
