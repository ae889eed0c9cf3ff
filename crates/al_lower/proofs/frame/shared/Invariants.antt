use Rattle.std.proofs.Common.{◌≡◌, take}
use Rattle.al_typed.specs.WellTyped.{shared_types}
use Rattle.al_lower.proofs.frame.shared.Given as goal

abbrev pub invariant-loop-local : goal.invariant-loop-local
invariant-loop-local l = l.types ≡ shared_types (take l.local-index l.locals)
