use Rattle.std.proofs.lemmas.Result.{err_from_is_err_and}
use Rattle.std.specs.List.{flat_map}
use Rattle.al_type_stmt.specs.Iterators.{iterators, gathering}
use Rattle.al_type_stmt.proofs.Gathering.{gathering-goes_on, gathering-stops}
use Rattle.al_type_stmt.proofs.iterators.+gather.Goals as goal

pub gather_all-returns-in_err-met : goal.gather_all-returns-in_err-met
gather_all-returns-in_err-met t c =
    let i = iterators c.args.env.now c.args.here.now in
    let p = err_from_is_err_and c.from_residual.result c.from_residual.ensures.1 in
    let q =
    gathering-stops i c.args.parts.now (gathering c.args.met (flat_map i c.args.parts.now)) c.loop-part.met c.loop-part.part-index c.part-item.result c.in_err-met.field-0.0 c.loop-part.invariant c.loop-part-test.true c.part-item.is c.in_err-met.ensures in
    rw (p.1, p.2) q

pub gather_all-loop-part-preserved : goal.gather_all-loop-part-preserved
gather_all-loop-part-preserved t c =
    gathering-goes_on (iterators c.args.env.now c.args.here.now) c.args.parts.now _ c.loop-part.met c.in_ok-met.met c.loop-part.part-index c.part-item.result c.loop-part.invariant c.loop-part-test.true c.part-item.is c.in_ok-met.ensures
