use Rattle.std.proofs.Common.{◌≡◌, ◌^◌, ◌<◌, List, [], length, subst, sym, arith}
use Rattle.al_world.specs.Channels.{Channel}
use Rattle.chan_book.specs.Book.{IsKept}
use Rattle.chan_book.proofs.Kept.{kept_new, kept_room}
use Rattle.chan_book.proofs.book.Book.new.Goals as goal

pub invariant_of-result : goal.invariant_of-result
invariant_of-result c =
    let talks = c.loop.talks.items in
    let count : length talks ≡ c.args.tasks = (let h = c.loop.invariant in omega (arith, h.count)) in
    let bound : c.args.tasks < 2 ^ 32 = omega arith in
    let kept : IsKept c.args.tasks [] talks c.in_ok-order.order c.in_ok-queues.queues = kept_new c.args.tasks talks c.in_ok-order.order c.in_ok-queues.queues (let h = c.loop.invariant in h.none) count bound c.in_ok-order.ensures.empty c.in_ok-order.ensures.ring c.in_ok-queues.ensures.empty c.in_ok-queues.ensures.ring in
    subst (λ (l : List Channel). IsKept (length talks) l talks c.in_ok-order.order c.in_ok-queues.queues) (sym c.new-3.ensures.items) (kept_room c.args.tasks (length talks) [] talks c.in_ok-order.order c.in_ok-queues.queues count kept)
