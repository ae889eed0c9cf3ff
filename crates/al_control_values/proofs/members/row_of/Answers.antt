use Rattle.std.proofs.Common.{◌∙◌, sym}
use Rattle.al_control_values.proofs.Paths.{row_of-number}
use Rattle.al_control_values.proofs.members.row_of.Goals as goal

pub returns-in-Aggregate : goal.returns-in-Aggregate
returns-in-Aggregate c = c.numbered.ensures ∙ sym (row_of-number c.args.rows.now c.args.ty.now c.in-Aggregate.number c.in-Aggregate.is)
