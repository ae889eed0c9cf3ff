use Rattle.al_typed.proofs.Unions.{in_order_room}
use Rattle.al_typed.proofs.next_row.members_room.Goals as goal

pub returns-else-is_union-clause-units : goal.returns-else-is_union-clause-units
returns-else-is_union-clause-units c =
    λ small. in_order_room c.args.aggregates.now c.args.types.now c.args.is_union c.in_order.result c.if-is_union.false c.in_order.ensures.value small
