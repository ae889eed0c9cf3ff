use Rattle.std.proofs.Common.{◌≡◌, ◌+◌, ◌*◌, drop, map}
use Rattle.al_tree.specs.declared.type_tree.TypeTree.{size-TypeTree}
use Rattle.al_poly.specs.Types.{all_of, type_of}
use Rattle.al_poly.proofs.TypesAre.{with_rest}
use Rattle.al_poly.proofs.resolve.+resolve.Given as goal

abbrev pub invariant-all_types-loop-t : goal.invariant-all_types-loop-t
invariant-all_types-loop-t l = all_of (map (type_of l.names l.inside) l.list) ≡ with_rest l.types (all_of (map (type_of l.names l.inside) (drop l.t-index l.list)))

abbrev pub decreases-type_of : goal.decreases-type_of
decreases-type_of l = 8 * size-TypeTree l.t.now

abbrev pub decreases-all_types : goal.decreases-all_types
decreases-all_types l = 8 * goal.size-all_types l + 1

abbrev pub decreases-named_by : goal.decreases-named_by
decreases-named_by l = 8 * goal.size-named_by l + 2

abbrev pub decreases-type_named : goal.decreases-type_named
decreases-type_named l = 8 * goal.size-type_named l + 3
