use Rattle.std.proofs.Common.{◌≡◌, fold, drop}
use Rattle.al_type_limits.specs.Types.{array}
use Rattle.al_type_limits.proofs.types.arrays.Given as goal

abbrev pub invariant-loop-b : goal.invariant-loop-b
invariant-loop-b l = fold array l.fn.element l.bounds ≡ fold array l.element (drop l.b-index l.bounds)
