use Rattle.std.proofs.Common.{◌≡◌, ℕ, drop}
use Rattle.al_variables.specs.Placing.{first_of}
use Rattle.al_variables.proofs.locals.first_of.Given as goal

abbrev pub invariant-loop-local : goal.invariant-loop-local
invariant-loop-local l = (at : ℕ) → first_of l.rows at l.locals ≡ first_of l.rows at (drop l.local-index l.locals)
