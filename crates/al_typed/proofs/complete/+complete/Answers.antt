use Rattle.al_typed.proofs.Completeness.{all_so_far, one_more_is}
use Rattle.al_typed.proofs.complete.+complete.Goals as goal

pub are_complete-loop-ty-preserved : goal.are_complete-loop-ty-preserved
are_complete-loop-ty-preserved t c =
    one_more_is c.args.aggregates.now c.args.tys.now c.loop-ty.ty-index c.ty-item.result c.is_complete.result c.loop-ty-test.true c.ty-item.is
    c.loop-ty.invariant c.is_complete.ensures c.if-not-is_complete.false

pub are_complete-returns : goal.are_complete-returns
are_complete-returns t c = all_so_far c.args.aggregates.now c.args.tys.now c.loop-ty.ty-index c.loop-ty-test.false c.loop-ty.invariant
