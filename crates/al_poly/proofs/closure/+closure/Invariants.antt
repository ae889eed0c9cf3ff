use Rattle.std.proofs.Common.{◌≡◌, drop}
use Rattle.std.specs.List.{flat_map}
use Rattle.al_poly.specs.Types.{instances_in}
use Rattle.al_poly.specs.Instances.{with_all}
use Rattle.al_poly.proofs.closure.+closure.Given as goal

abbrev pub invariant-add_all-loop-t : goal.invariant-add_all-loop-t
invariant-add_all-loop-t l =
    with_all l.fn.list (flat_map (instances_in l.names l.inside) l.types) ≡ with_all l.list (flat_map (instances_in l.names l.inside) (drop l.t-index l.types))
