use Rattle.std.proofs.Common.{length, List, Option, ap, ◌∙◌, arith}
use Rattle.al_event.specs.declared.act.Branch.{Branch}
use Rattle.chan_book.specs.Book.{Bounded, tasks_on, count_on}
use Rattle.chan_book.proofs.Tasks.{waiting_count, order_few}
use Rattle.chan_book.proofs.book.Book.waiting_for.Goals as goal

pub overflow_cast-result : goal.overflow_cast-result
overflow_cast-result c =
    let i = c.self.inside in
    let kept = c.self.invariant in
    let few = order_few (length i.talks.items) i.channels.items i.talks.items i.order i.queues c.self.invariant in
    omega (arith, c.count_on.ensures.few, few, kept.room_bound)

pub returns : goal.returns
returns c =
    let i = c.self.inside in
    c.count_on.ensures.count ∙ ap (λ (l : List (Option (List Branch))). count_on c.args.chan l i.order.items) c.deref.ensures.value ∙ waiting_count (length i.talks.items) i.channels.items i.talks.items i.order i.queues c.args.chan c.self.invariant ∙ ap (λ (v : Bounded). length (tasks_on c.args.chan v.book.waiting)) c.self.view_is
