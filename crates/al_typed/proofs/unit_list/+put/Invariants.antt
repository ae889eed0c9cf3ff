use Rattle.std.proofs.Common.{◌≡◌, ◌+◌, ◌*◌, ◌++◌, map, take}
use Rattle.std.specs.Prelude.{fold}
use Rattle.al_typed.specs.Layout.{begun, followed, layout, moved, repeated, size_of}
use Rattle.al_typed.proofs.Depths.{deepest, depth, depth_of}
use Rattle.al_typed.proofs.unit_list.+put.Given as goal

abbrev pub decreases-put : goal.decreases-put
decreases-put l = 4 * (depth_of l.aggregates.now + depth l.ty.now)

abbrev pub decreases-put_aggregate : goal.decreases-put_aggregate
decreases-put_aggregate l = 4 * depth_of l.aggregates.now + 3

abbrev pub decreases-put_elements : goal.decreases-put_elements
decreases-put_elements l = 4 * (depth_of l.aggregates.now + depth l.element.now) + 1

abbrev pub decreases-put_in_order : goal.decreases-put_in_order
decreases-put_in_order l = 4 * (depth_of l.aggregates.now + deepest l.types.now) + 1

abbrev pub invariant-put_elements-loop : goal.invariant-put_elements-loop
invariant-put_elements-loop l = record {
  out : l.out ≡ l.fn.out ++ moved l.at (repeated l.counter (layout l.aggregates l.element)).units;
  next : l.next ≡ l.at + l.counter * size_of l.aggregates l.element;
}

abbrev pub invariant-put_in_order-loop-ty : goal.invariant-put_in_order-loop-ty
invariant-put_in_order-loop-ty l = record {
  out : l.out ≡ l.fn.out ++ moved l.at (fold followed begun (take l.ty-index (map (layout l.aggregates) l.types))).units;
  end : l.end ≡ (fold followed begun (take l.ty-index (map (layout l.aggregates) l.types))).at;
}
