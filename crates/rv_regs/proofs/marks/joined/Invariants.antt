use Rattle.std.proofs.Common.{◌≡◌, ℕ, ◌<◌, ◌||◌, length}
use Rattle.rv_regs.specs.Marks.{marked}
use Rattle.rv_regs.proofs.marks.joined.Given as goal

abbrev pub invariant-loop-pc : goal.invariant-loop-pc
invariant-loop-pc l = (length l.joined ≡ l.pc) × ((k : ℕ) → k < l.pc → marked l.joined k ≡ (marked l.a k || marked l.b k))
