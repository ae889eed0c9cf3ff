use Rattle.std.proofs.Common.{◌≡◌, ◌≤◌, ◌+◌, ◌^◌, ◌++◌, ◌∙◌, sym, ap, subst, arith, refl, length-take}
use Rattle.std.specs.Result.{OnOk}
use Rattle.std.proofs.lemmas.Option.{slice_get_within}
use Rattle.al_typed.specs.declared.ty.Ty.{Ty}
use Rattle.al_typed.specs.declared.ty.Ty.TheVariants as ty
use Rattle.al_typed.specs.Layout.{Layout, layout, moved, size_of}
use Rattle.al_typed.proofs.Depths.{deepest-at, depth-Aggregate, depth-Array, depth-Tuple, depth-before}
use Rattle.al_typed.proofs.Layouts.{layout-Function, layout-Void, layout-none}
use Rattle.al_typed.proofs.Placing.{aggregate-bodiless, aggregate-in_order, array_room, elements_begun, elements_more, element_size, member_more, members_done, next_element, none_put, placed_at, tuple_room, union_kept}
use Rattle.al_typed.proofs.Rows.{first_laid_out}
use Rattle.al_typed.proofs.unit_list.+put.Goals as goal

pub put-put_elements-requires : goal.put-put_elements-requires
put-put_elements-requires t c =
    let falls = depth-Array c.args.ty.now c.in-Array.element c.get.result.now c.in-Array.count c.in-Array.is c.get.ensures in
    let room = array_room c.args.aggregates.now c.args.ty.now c.in-Array.element c.get.result.now c.in-Array.count c.args.at c.in-Array.is c.get.ensures c.requires.room in
    (omega arith, (c.requires.laid_out, room))

pub put-put_in_order-requires : goal.put-put_in_order-requires
put-put_in_order-requires t c =
    let falls = depth-Tuple c.args.ty.now c.in-Tuple.parts c.as_slice.result.now c.in-Tuple.is c.as_slice.ensures.value in
    let room = tuple_room c.args.aggregates.now c.args.ty.now c.in-Tuple.parts c.as_slice.result.now c.args.at c.in-Tuple.is c.as_slice.ensures.value c.requires.room in
    (omega arith, (c.requires.laid_out, room))

pub put-put_aggregate-requires : goal.put-put_aggregate-requires
put-put_aggregate-requires t c =
    let falls = depth-Aggregate c.args.ty.now c.in-Aggregate.number c.in-Aggregate.is in
    let room : c.args.at + size_of c.args.aggregates.now (ty.Aggregate c.in-Aggregate.number) ≤ 2 ^ 28 =
    subst (λ (u : Ty). c.args.at + size_of c.args.aggregates.now u ≤ 2 ^ 28) c.in-Aggregate.is c.requires.room in
    (omega arith, (c.requires.laid_out, room))

pub put-returns-in-Void : goal.put-returns-in-Void
put-returns-in-Void t c =
    none_put c.args.aggregates.now c.args.out.now c.args.at c.args.ty.now (ap (layout c.args.aggregates.now) c.in-Void.is ∙ layout-Void c.args.aggregates.now)

pub put-returns-in-Function : goal.put-returns-in-Function
put-returns-in-Function t c =
    none_put c.args.aggregates.now c.args.out.now c.args.at c.args.ty.now (ap (layout c.args.aggregates.now) c.in-Function.is ∙ layout-Function c.args.aggregates.now _ _)

pub put_aggregate-returns-in-None : goal.put_aggregate-returns-in-None
put_aggregate-returns-in-None t c =
    none_put c.args.aggregates.now c.args.out.now c.args.at (ty.Aggregate c.args.number)
    (layout-none c.args.aggregates.now c.args.number (sym c.in-None.ensures))

pub put_aggregate-returns-in-None-members : goal.put_aggregate-returns-in-None-members
put_aggregate-returns-in-None-members t c =
    none_put c.args.aggregates.now c.args.out.now c.args.at (ty.Aggregate c.args.number)
    (aggregate-bodiless c.args.aggregates.now c.args.number c.in-Some.aggregate.now (sym c.in-Some.ensures) c.in-None-members.is)

pub put_aggregate-put_union-requires-clause-align : goal.put_aggregate-put_union-requires-clause-align
put_aggregate-put_union-requires-clause-align t c =
    let kept = union_kept c.args.aggregates.now c.args.number c.in-Some.aggregate.now _ c.requires.laid_out (sym c.in-Some.ensures) c.in-Some-members.is c.if-aggregate.true in
    (kept.low, kept.high)

pub put_aggregate-put_union-requires-clause-room : goal.put_aggregate-put_union-requires-clause-room
put_aggregate-put_union-requires-clause-room t c =
    let kept = union_kept c.args.aggregates.now c.args.number c.in-Some.aggregate.now _ c.requires.laid_out (sym c.in-Some.ensures) c.in-Some-members.is c.if-aggregate.true in
    let room = c.requires.room in
    omega (arith, kept.size)

pub put_aggregate-returns-then-aggregate : goal.put_aggregate-returns-then-aggregate
put_aggregate-returns-then-aggregate t c =
    let kept = union_kept c.args.aggregates.now c.args.number c.in-Some.aggregate.now _ c.requires.laid_out (sym c.in-Some.ensures) c.in-Some-members.is c.if-aggregate.true in
    subst (λ units. OnOk c.put_union.result (c.put_union.new.out ≡ c.args.out.now ++ moved c.args.at units)) (sym kept.units) c.put_union.ensures

pub put_aggregate-slice_bounds-put_in_order-end : goal.put_aggregate-slice_bounds-put_in_order-end
put_aggregate-slice_bounds-put_in_order-end t c =
    let within = slice_get_within c.args.aggregates.now c.args.number c.in-Some.aggregate.now (sym c.in-Some.ensures) in
    omega (arith, length-take c.args.number c.args.aggregates.now)

pub put_aggregate-put_in_order-requires : goal.put_aggregate-put_in_order-requires
put_aggregate-put_in_order-requires t c =
    let members = c.as_slice.result.now in
    let falls =
    depth-before c.args.aggregates.now c.args.number c.in-Some.aggregate.now c.in-Some-members.members members (sym c.in-Some.ensures) c.in-Some-members.is
    c.as_slice.ensures.value in
    let is =
    aggregate-in_order c.args.aggregates.now c.args.number c.in-Some.aggregate.now c.in-Some-members.members members (sym c.in-Some.ensures) c.in-Some-members.is
    c.if-aggregate.false c.as_slice.ensures.value in
    let room = subst (λ (l : Layout). c.args.at + l.size ≤ 2 ^ 28) is c.requires.room in
    (omega arith, (first_laid_out c.args.aggregates.now c.args.number c.requires.laid_out, room))

pub put_aggregate-returns-else-aggregate : goal.put_aggregate-returns-else-aggregate
put_aggregate-returns-else-aggregate t c =
    let members = c.as_slice.result.now in
    let is =
    aggregate-in_order c.args.aggregates.now c.args.number c.in-Some.aggregate.now c.in-Some-members.members members (sym c.in-Some.ensures) c.in-Some-members.is
    c.if-aggregate.false c.as_slice.ensures.value in
    subst (λ (l : Layout). OnOk c.put_in_order.result (c.put_in_order.new.out ≡ c.args.out.now ++ moved c.args.at l.units)) (sym is) c.put_in_order.ensures

pub put_elements-loop-init : goal.put_elements-loop-init
put_elements-loop-init t c = record { out = elements_begun _ _ _; next = omega arith }

pub put_elements-loop-preserved : goal.put_elements-loop-preserved
put_elements-loop-preserved t c =
    let size = element_size c.room_of-size.result.size _ c.args.count c.loop.counter c.args.at c.room_of-size.ensures.value.size c.loop-test.true c.requires.room in
    record {
      out =
          elements_more c.args.out.now c.loop.out c.put.new.out c.args.at c.loop.next c.loop.counter _ c.loop.invariant.out c.loop.invariant.next
          c.in_ok-put.ensures;
      next = next_element c.args.at c.loop.next c.loop.counter _ c.room_of-size.result.size c.loop.invariant.next size;
    }

pub put_in_order-overflow_add-at : goal.put_in_order-overflow_add-at
put_in_order-overflow_add-at t c =
    let placed =
    placed_at c.args.aggregates.now c.args.types.now c.loop-ty.ty-index c.ty-item.result c.args.at c.rounded-start.result c.loop-ty.end
    c.room_of-room.result c.loop-ty-test.true c.ty-item.is c.rounded-start.ensures c.loop-ty.invariant.end c.room_of-room.ensures.value c.requires.room in
    omega (arith, placed.within)

pub put_in_order-put-requires : goal.put_in_order-put-requires
put_in_order-put-requires t c =
    let placed =
    placed_at c.args.aggregates.now c.args.types.now c.loop-ty.ty-index c.ty-item.result c.args.at c.rounded-start.result c.loop-ty.end
    c.room_of-room.result c.loop-ty-test.true c.ty-item.is c.rounded-start.ensures c.loop-ty.invariant.end c.room_of-room.ensures.value c.requires.room in
    let falls = deepest-at c.args.types.now c.loop-ty.ty-index c.ty-item.result c.loop-ty-test.true c.ty-item.is in
    (omega arith, (c.requires.laid_out, placed.within))

pub put_in_order-overflow_add-end : goal.put_in_order-overflow_add-end
put_in_order-overflow_add-end t c =
    let placed =
    placed_at c.args.aggregates.now c.args.types.now c.loop-ty.ty-index c.ty-item.result c.args.at c.rounded-start.result c.loop-ty.end
    c.room_of-room.result c.loop-ty-test.true c.ty-item.is c.rounded-start.ensures c.loop-ty.invariant.end c.room_of-room.ensures.value c.requires.room in
    omega (arith, placed.within, placed.size)

pub put_in_order-loop-ty-preserved : goal.put_in_order-loop-ty-preserved
put_in_order-loop-ty-preserved t c =
    let placed =
    placed_at c.args.aggregates.now c.args.types.now c.loop-ty.ty-index c.ty-item.result c.args.at c.rounded-start.result c.loop-ty.end
    c.room_of-room.result c.loop-ty-test.true c.ty-item.is c.rounded-start.ensures c.loop-ty.invariant.end c.room_of-room.ensures.value c.requires.room in
    let more =
    member_more c.args.aggregates.now c.args.types.now c.loop-ty.ty-index c.ty-item.result c.args.out.now c.loop-ty.out c.put.new.out c.args.at
    c.rounded-start.result c.room_of-room.result.size _ c.loop-ty-test.true c.ty-item.is c.loop-ty.invariant.out placed refl c.in_ok-put.ensures in
    record { out = more.0; end = more.1 }

pub put_in_order-returns : goal.put_in_order-returns
put_in_order-returns t c =
    members_done c.args.aggregates.now c.args.types.now c.loop-ty.ty-index c.args.out.now c.loop-ty.out c.args.at c.loop-ty-test.false
    c.loop-ty.invariant.out
