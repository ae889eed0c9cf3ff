use Rattle.std.proofs.Common.{◌≡◌, ◌<◌, ◌≤◌, true, false, ltb, if◌then◌else◌, length, subst, sym, ap, ◌∙◌, arith, Some, None, option_map, slice_get, min, refl, ℕ}
use Rattle.std.proofs.lemmas.Bool.Decides.{nat_tests}
use Rattle.al_world.specs.Channels.{opposites}
use Rattle.chan_book.specs.Book.{Bounded, IsThere, IsOnMade, IsStart, opposite_queue, queue_in}
use Rattle.chan_book.specs.Named.{waiter_of}
use Rattle.chan_book.proofs.One.{channel_below}
use Rattle.chan_book.proofs.Pairs.{starts, opposite_below, opposite_some, opposite_none}
use Rattle.chan_book.proofs.book.Book.opposite.Goals as goal

pub go_along-node-requires-clause-start : goal.go_along-node-requires-clause-start
go_along-node-requires-clause-start c =
    let i = c.self.inside in
    let b = c.args.branch.now in
    let there : IsThere i.channels.items b.chan = subst (λ (v : Bounded). IsThere v.book.channels b.chan) (sym c.self.view_is) c.requires in
    let below = channel_below i.channels.items b.chan there.at there.is in
    let made : IsOnMade i.channels.items b = record { some = below.0; made = below.1 } in
    subst (IsStart i.queues) (sym c.opposite_queue.ensures) (starts (length i.talks.items) i.channels.items i.talks.items i.order i.queues c.self.invariant (opposite_queue b) (opposite_below (length i.talks.items) i.channels.items i.talks.items i.order i.queues c.self.invariant b made))

if_so : (n root : ℕ) → n < root → (if ltb n root then Some n else None) ≡ Some n
if_so n root lt = let e : ltb n root ≡ true = grind (arith, nat_tests) in rw e refl

if_not : (n root : ℕ) → root ≤ n → (if ltb n root then Some n else None) ≡ None
if_not n root le = let e : ltb n root ≡ false = grind (arith, nat_tests) in rw e refl

pub returns-then-node-root : goal.returns-then-node-root
returns-then-node-root c =
    let i = c.self.inside in
    let b = c.args.branch.now in
    let there : IsThere i.channels.items b.chan = subst (λ (v : Bounded). IsThere v.book.channels b.chan) (sym c.self.view_is) c.requires in
    let below = channel_below i.channels.items b.chan there.at there.is in
    let made : IsOnMade i.channels.items b = record { some = below.0; made = below.1 } in
    let n = c.go_along-node.result.0 in
    let x = c.go_along-node.result.1 in
    let count = subst (λ q. n ≡ min c.args.place (length (queue_in i.queues q))) c.opposite_queue.ensures c.go_along-node.ensures.count in
    let node = subst (λ q. slice_get (queue_in i.queues q) n ≡ (if ltb x i.queues.root then Some x else None)) c.opposite_queue.ensures c.go_along-node.ensures.node in
    sym (ap (λ (v : Bounded). option_map waiter_of (slice_get (opposites v.book.waiting b) c.args.place)) (sym c.self.view_is) ∙ opposite_none (length i.talks.items) i.channels.items i.talks.items i.order i.queues c.self.invariant b c.args.place n made count (node ∙ if_not x i.queues.root (omega (arith, c.root.ensures.value))))

pub returns : goal.returns
returns c =
    let i = c.self.inside in
    let b = c.args.branch.now in
    let there : IsThere i.channels.items b.chan = subst (λ (v : Bounded). IsThere v.book.channels b.chan) (sym c.self.view_is) c.requires in
    let below = channel_below i.channels.items b.chan there.at there.is in
    let made : IsOnMade i.channels.items b = record { some = below.0; made = below.1 } in
    let n = c.go_along-node.result.0 in
    let x = c.go_along-node.result.1 in
    let count = subst (λ q. n ≡ min c.args.place (length (queue_in i.queues q))) c.opposite_queue.ensures c.go_along-node.ensures.count in
    let node = subst (λ q. slice_get (queue_in i.queues q) n ≡ (if ltb x i.queues.root then Some x else None)) c.opposite_queue.ensures c.go_along-node.ensures.node in
    sym (ap (λ (v : Bounded). option_map waiter_of (slice_get (opposites v.book.waiting b) c.args.place)) (sym c.self.view_is) ∙ opposite_some (length i.talks.items) i.channels.items i.talks.items i.order i.queues c.self.invariant b c.args.place n x made count (node ∙ if_so x i.queues.root (omega (arith, c.root.ensures.value))))
