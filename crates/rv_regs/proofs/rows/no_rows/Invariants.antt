use Rattle.std.proofs.Common.{◌≡◌, ℕ, [], length}
use Rattle.rv_regs.specs.Rows.{row}
use Rattle.rv_regs.proofs.rows.no_rows.Given as goal

abbrev pub invariant-loop-k : goal.invariant-loop-k
invariant-loop-k l = (length l.taken ≡ l._k) × ((k : ℕ) → row l.taken k ≡ [])
