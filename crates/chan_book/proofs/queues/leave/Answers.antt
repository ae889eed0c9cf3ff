use Rattle.std.proofs.Common.{◌≡◌, ◌+◌, ◌-◌, suc, subst, arith}
use Rattle.chan_book.specs.Book.{CanLeave}
use Rattle.chan_book.proofs.Steps.{without_all, leave_more}
use Rattle.chan_book.proofs.queues.leave.Goals as goal

pub loop-gone-preserved : goal.loop-gone-preserved
loop-gone-preserved c =
    let next : c.args.node + c.args.count - c.loop-gone.gone ≡ suc (c.args.node + c.args.count - (c.loop-gone.gone + 1)) = omega arith in
    let more = leave_more _ _ _ _ _ c.remove.ensures.without (subst (CanLeave _ _) next c.loop-gone.invariant.there) (subst (λ n. without_all c.loop-gone.queues c.loop-gone.gone n ≡ without_all c.args.queues.now c.args.node c.args.count) next c.loop-gone.invariant.whole) in
    let step : suc c.loop-gone.gone ≡ c.loop-gone.gone + 1 = omega arith in
    record {
      ring = c.remove.ensures.ring;
      there = subst (λ n. CanLeave c.remove.new.self n (c.args.node + c.args.count - (c.loop-gone.gone + 1))) step more.0;
      whole = subst (λ n. without_all c.remove.new.self n (c.args.node + c.args.count - (c.loop-gone.gone + 1)) ≡ without_all c.args.queues.now c.args.node c.args.count) step more.1;
    }
