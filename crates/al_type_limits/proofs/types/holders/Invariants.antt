use Rattle.std.proofs.Common.{◌≡◌, fold, drop}
use Rattle.al_type_limits.specs.Types.{holder}
use Rattle.al_type_limits.proofs.types.holders.Given as goal

abbrev pub invariant-loop-b : goal.invariant-loop-b
invariant-loop-b l = fold holder l.fn.element l.bounds ≡ fold holder l.element (drop l.b-index l.bounds)
