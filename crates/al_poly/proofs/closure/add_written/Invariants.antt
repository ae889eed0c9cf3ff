use Rattle.std.proofs.Common.{◌≡◌, drop, map}
use Rattle.std.specs.List.{flat_map}
use Rattle.al_poly.specs.Types.{instances_in}
use Rattle.al_poly.specs.Instances.{with_all}
use Rattle.al_poly.proofs.closure.add_written.Given as goal

abbrev pub invariant-loop-t : goal.invariant-loop-t
invariant-loop-t l =
    with_all l.fn.list (flat_map (instances_in l.names l.inside) (map (λ t. t.now) l.types)) ≡ with_all l.list (flat_map (instances_in l.names l.inside) (map (λ t. t.now) (drop l.t-index l.types)))
