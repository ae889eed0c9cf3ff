use Rattle.std.proofs.Common.{◌≡◌, fold, drop}
use Rattle.al_type_limits.specs.Types.{with_type}
use Rattle.al_type_limits.proofs.types.+types.Given as goal

abbrev pub invariant-add_types-loop-t : goal.invariant-add_types-loop-t
invariant-add_types-loop-t l = fold (with_type l.names) l.fn.sum l.types ≡ fold (with_type l.names) l.sum (drop l.t-index l.types)
