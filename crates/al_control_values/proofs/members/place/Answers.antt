use Rattle.al_control_values.proofs.Paths.{union_place, other_place}
use Rattle.al_control_values.proofs.members.place.Goals as goal

pub returns-then-is_union : goal.returns-then-is_union
returns-then-is_union c = union_place c.args.rows.now c.args.is_union c.args.members.now c.args.number c.if-is_union.true

pub returns-else-is_union : goal.returns-else-is_union
returns-else-is_union c = other_place c.args.rows.now c.args.is_union c.args.members.now c.args.number c.offset.result c.if-is_union.false c.offset.ensures
