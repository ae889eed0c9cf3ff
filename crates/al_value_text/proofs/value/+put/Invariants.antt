use Rattle.std.proofs.Common.{◌≡◌, ◌+◌, ◌-◌, ◌*◌, ◌++◌, ◌∷◌, [], map, drop}
use Rattle.std.specs.Prelude.{replicate, true}
use Rattle.al_typed.proofs.Depths.{deepest, depth, depth_of}
use Rattle.al_value_text.specs.Values.{shown_in, shown_parts, with_commas}
use Rattle.al_value_text.proofs.value.+put.Given as goal

abbrev pub decreases-put_value : goal.decreases-put_value
decreases-put_value l = 4 * (depth_of l.aggregates.now + depth l.ty.now)

abbrev pub decreases-put_aggregate : goal.decreases-put_aggregate
decreases-put_aggregate l = 4 * depth_of l.aggregates.now + 3

abbrev pub decreases-put_elements : goal.decreases-put_elements
decreases-put_elements l = 4 * (depth_of l.aggregates.now + depth l.element.now) + 1

abbrev pub decreases-put_parts : goal.decreases-put_parts
decreases-put_parts l = 4 * (depth_of l.aggregates.now + deepest l.types.now) + 1

abbrev pub invariant-put_parts-loop-ty : goal.invariant-put_parts-loop-ty
invariant-put_parts-loop-ty l =
    l.out ++ with_commas l.is_first (shown_parts (map (shown_in l.aggregates) (drop l.ty-index l.types)) l.rest)
    ≡ l.fn.out ++ 40 ∷ with_commas true (shown_parts (map (shown_in l.aggregates) l.types) l.words)

abbrev pub invariant-put_elements-loop : goal.invariant-put_elements-loop
invariant-put_elements-loop l =
    l.out ++ with_commas l.is_first (shown_parts (replicate (l.count - l.counter) (shown_in l.aggregates l.element)) l.rest)
    ≡ l.fn.out ++ 40 ∷ with_commas true (shown_parts (replicate l.count (shown_in l.aggregates l.element)) l.words)
