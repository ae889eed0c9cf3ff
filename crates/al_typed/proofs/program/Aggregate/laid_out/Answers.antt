use Rattle.std.proofs.Common.{[], arith}
use Rattle.al_typed.specs.Layout.{layouts_after}
use Rattle.al_typed.proofs.Fitting.{body_fits, layouts_after_fit}
use Rattle.al_typed.proofs.program.Aggregate.laid_out.Goals as goal

pub overflow_cast-result-2 : goal.overflow_cast-result-2
overflow_cast-result-2 c =
    let known = layouts_after [] c.args.aggregates.now in
    let fits = body_fits known c.args.is_union c.args.members (layouts_after_fit [] c.args.aggregates.now tt) in
    let counted = c.body_room-room.ensures.units (omega arith) in
    omega (arith, fits.few, c.body_room-room.ensures.size)
