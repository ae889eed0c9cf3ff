use Rattle.std.proofs.Common.{◌≡◌, length, min, subst, sym, ap, ◌∙◌, Some}
use Rattle.al_world.specs.Channels.{channel, pairs_at}
use Rattle.chan_book.specs.Book.{Bounded, IsOnMade, IsStart, opposite_queue, queue_in}
use Rattle.chan_book.proofs.One.{channel_below}
use Rattle.chan_book.proofs.Pairs.{starts, opposite_below, pairs_unbuffered}
use Rattle.chan_book.proofs.book.Book.pairs.Goals as goal

pub go_along-requires-clause-start : goal.go_along-requires-clause-start
go_along-requires-clause-start c =
    let i = c.self.inside in
    let b = c.args.branch.now in
    let is : channel i.channels.items b.chan ≡ Some c.in-Some.channel.now = ap (λ (v : Bounded). channel v.book.channels b.chan) c.self.view_is ∙ sym c.in-Some.ensures in
    let below = channel_below i.channels.items b.chan c.in-Some.channel.now is in
    let made : IsOnMade i.channels.items b = record { some = below.0; made = below.1 } in
    subst (IsStart i.queues) (sym c.opposite_queue.ensures) (starts (length i.talks.items) i.channels.items i.talks.items i.order i.queues c.self.invariant (opposite_queue b) (opposite_below (length i.talks.items) i.channels.items i.talks.items i.order i.queues c.self.invariant b made))

pub returns-in-Some : goal.returns-in-Some
returns-in-Some c =
    let i = c.self.inside in
    let b = c.args.branch.now in
    let is : channel i.channels.items b.chan ≡ Some c.in-Some.channel.now = ap (λ (v : Bounded). channel v.book.channels b.chan) c.self.view_is ∙ sym c.in-Some.ensures in
    let below = channel_below i.channels.items b.chan c.in-Some.channel.now is in
    let made : IsOnMade i.channels.items b = record { some = below.0; made = below.1 } in
    let count = subst (λ q. c.go_along.result.0 ≡ min c.args.most (length (queue_in i.queues q))) c.opposite_queue.ensures c.go_along.ensures.count in
    let none : c.in-Some.channel.now.capacity ≡ 0 = sym c.capacity.ensures ∙ c.if-capacity-eq0.true in
    let all = pairs_unbuffered (length i.talks.items) i.channels.items i.talks.items i.order i.queues c.self.invariant b c.in-Some.channel.now c.go_along.result.0 c.args.most made none count in
    all ∙ ap (λ (v : Bounded). min c.args.most (length (pairs_at v.book.waiting 0 b (Some c.in-Some.channel.now)))) c.self.view_is ∙ ap (λ o. min c.args.most (length (pairs_at c.args.self.now.book.waiting 0 b o))) c.in-Some.ensures
