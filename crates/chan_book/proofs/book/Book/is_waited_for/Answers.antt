use Rattle.std.proofs.Common.{◌≡◌, ◌+◌, ◌*◌, ◌-◌, ◌<◌, ◌≤◌, ◌==◌, ◌||◌, Bool, true, false, ltb, length, subst, sym, ap, ◌∙◌, arith, ℕ}
use Rattle.std.specs.List.{list_any}
use Rattle.std.proofs.lemmas.Bool.Decides.{nat_tests}
use Rattle.al_world.specs.Channels.{Offer}
use Rattle.chan_book.specs.Book.{Bounded, IsThere, queue_of, waiting_of}
use Rattle.chan_book.proofs.One.{channel_below}
use Rattle.chan_book.proofs.Pairs.{starts, any_queue, waited}
use Rattle.chan_book.proofs.book.Book.is_waited_for.Goals as goal

pub go_along-requires-clause-start : goal.go_along-requires-clause-start
go_along-requires-clause-start c =
    let i = c.self.inside in
    let there : IsThere i.channels.items c.args.chan = subst (λ (v : Bounded). IsThere v.book.channels c.args.chan) (sym c.self.view_is) c.requires in
    let below = channel_below i.channels.items c.args.chan there.at there.is in
    starts (length i.talks.items) i.channels.items i.talks.items i.order i.queues c.self.invariant (2 * (c.args.chan - 1)) (omega (arith, below.0, below.1))

pub go_along-requires-else-go_along-gt0-clause-start : goal.go_along-requires-else-go_along-gt0-clause-start
go_along-requires-else-go_along-gt0-clause-start c =
    let i = c.self.inside in
    let there : IsThere i.channels.items c.args.chan = subst (λ (v : Bounded). IsThere v.book.channels c.args.chan) (sym c.self.view_is) c.requires in
    let below = channel_below i.channels.items c.args.chan there.at there.is in
    starts (length i.talks.items) i.channels.items i.talks.items i.order i.queues c.self.invariant (2 * (c.args.chan - 1) + 1) (omega (arith, below.0, below.1))

-- where the first of two is so, either is
first_so : (a b : Bool) → a ≡ true → a ≡ (a || b)
first_so true b h = h
first_so false b h = absurd (cc)

second_so : (a b : Bool) → a ≡ false → b ≡ (a || b)
second_so a b h = rw h (let e : b ≡ b = λ i. b in e)

is_above : (n : ℕ) → 0 < n → ltb 0 n ≡ true
is_above n lt = grind (arith, nat_tests)

is_none : (n : ℕ) → n ≤ 0 → ltb 0 n ≡ false
is_none n le = grind (arith, nat_tests)

pub returns-then-go_along-gt0 : goal.returns-then-go_along-gt0
returns-then-go_along-gt0 c =
    let i = c.self.inside in
    let there : IsThere i.channels.items c.args.chan = subst (λ (v : Bounded). IsThere v.book.channels c.args.chan) (sym c.self.view_is) c.requires in
    let below = channel_below i.channels.items c.args.chan there.at there.is in
    let w = waiting_of i.talks.items i.order.items in
    let a = any_queue (length i.talks.items) i.channels.items i.talks.items i.order i.queues c.self.invariant (2 * (c.args.chan - 1)) c.go_along.result.0 (omega (arith, below.0, below.1)) c.go_along.ensures.count in
    let either = waited (length i.talks.items) i.channels.items i.talks.items i.order i.queues c.self.invariant c.args.chan below.0 in
    a ∙ first_so (list_any (λ (o : Offer ℕ). queue_of o.branch == 2 * (c.args.chan - 1)) w) (list_any (λ (o : Offer ℕ). queue_of o.branch == 2 * (c.args.chan - 1) + 1) w) (sym a ∙ is_above c.go_along.result.0 (omega arith)) ∙ sym either ∙ ap (λ (v : Bounded). list_any (λ (o : Offer ℕ). o.branch.chan == c.args.chan) v.book.waiting) c.self.view_is

pub returns-else-go_along-gt0 : goal.returns-else-go_along-gt0
returns-else-go_along-gt0 c =
    let i = c.self.inside in
    let there : IsThere i.channels.items c.args.chan = subst (λ (v : Bounded). IsThere v.book.channels c.args.chan) (sym c.self.view_is) c.requires in
    let below = channel_below i.channels.items c.args.chan there.at there.is in
    let w = waiting_of i.talks.items i.order.items in
    let a = any_queue (length i.talks.items) i.channels.items i.talks.items i.order i.queues c.self.invariant (2 * (c.args.chan - 1)) c.go_along.result.0 (omega (arith, below.0, below.1)) c.go_along.ensures.count in
    let b = any_queue (length i.talks.items) i.channels.items i.talks.items i.order i.queues c.self.invariant (2 * (c.args.chan - 1) + 1) c.go_along-else-go_along-gt0.result.0 (omega (arith, below.0, below.1)) c.go_along-else-go_along-gt0.ensures.count in
    let either = waited (length i.talks.items) i.channels.items i.talks.items i.order i.queues c.self.invariant c.args.chan below.0 in
    b ∙ second_so (list_any (λ (o : Offer ℕ). queue_of o.branch == 2 * (c.args.chan - 1)) w) (list_any (λ (o : Offer ℕ). queue_of o.branch == 2 * (c.args.chan - 1) + 1) w) (sym a ∙ is_none c.go_along.result.0 (omega arith)) ∙ sym either ∙ ap (λ (v : Bounded). list_any (λ (o : Offer ℕ). o.branch.chan == c.args.chan) v.book.waiting) c.self.view_is
