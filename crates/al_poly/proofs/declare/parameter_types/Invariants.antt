use Rattle.std.proofs.Common.{◌≡◌, drop, map}
use Rattle.al_poly.specs.Types.{all_of, parameter_type}
use Rattle.al_poly.proofs.TypesAre.{with_rest}
use Rattle.al_poly.proofs.declare.parameter_types.Given as goal

abbrev pub invariant-loop-p : goal.invariant-loop-p
invariant-loop-p l = all_of (map (parameter_type l.names l.inside) l.list) ≡ with_rest l.types (all_of (map (parameter_type l.names l.inside) (drop l.p-index l.list)))
