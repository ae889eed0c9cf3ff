use Rattle.std.proofs.Common.{◌≡◌, fold, drop}
use Rattle.al_type_limits.specs.Types.{with_parameter}
use Rattle.al_type_limits.proofs.types.add_parameters.Given as goal

abbrev pub invariant-loop-p : goal.invariant-loop-p
invariant-loop-p l = fold (with_parameter l.names) l.fn.sum l.list ≡ fold (with_parameter l.names) l.sum (drop l.p-index l.list)
