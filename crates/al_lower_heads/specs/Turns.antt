-- The operations before and behind the body that iterators repeat.
use Rattle.std.specs.Prelude.{ℕ, zero, suc, ◌+◌, ◌*◌, true, List, [], ◌∷◌}
use Rattle.al_base.specs.declared.arith.Op.TheVariants as arith
use Rattle.al_ir.specs.declared.ir.Operation.{Operation}
use Rattle.al_ir.specs.declared.op.Op.TheVariants as op
use Rattle.al_lower_code.specs.Homes.{Spot, operation}

-- The first turn of each of so many iterators, the outermost first, and the end of its turns. The body has so many operations.
abbrev pub begins : Spot → (count turn bound size : ℕ) → List Operation
begins s zero turn bound size = []
begins s (suc n) turn bound size =
    operation s.line (op.Copy turn bound) ∷ operation s.line (op.SkipUnless arith.Lt true turn (bound + 1) (4 * n + size + 2)) ∷ begins s n (turn + 1) (bound + 2) size

-- the next turn of each of them, the innermost first
abbrev pub ends : Spot → (count turn pc : ℕ) → List Operation
ends s zero turn pc = []
ends s (suc n) turn pc =
    operation s.line (op.WordBy arith.Add true (turn + n) (turn + n) 1) ∷ operation s.line (op.Turn (pc + 2 * n + 1)) ∷ ends s n turn pc
