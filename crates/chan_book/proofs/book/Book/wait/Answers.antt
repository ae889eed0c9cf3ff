use Rattle.std.proofs.Common.{◌≡◌, ◌<◌, ◌*◌, false, length, set, Some, subst, sym, ap, ◌∙◌, length-set}
use Rattle.std.specs.List.{AllByRecursion}
use Rattle.al_event.specs.declared.act.Branch.{Branch}
use Rattle.al_world.specs.Talks.{blocks}
use Rattle.chan_book.specs.Links.{has, inserted}
use Rattle.chan_book.specs.Book.{Bounded, is_blocked, IsTalk, CanEnter, entered}
use Rattle.chan_book.proofs.Kept.{not_in_order, can_enter, kept_wait, kept_room, wait_view, on_channels}
use Rattle.chan_book.proofs.book.Book.wait.Goals as goal

pub enter-requires-clause-free : goal.enter-requires-clause-free
enter-requires-clause-free c =
    let i = c.self.inside in
    let t = c.args.task in
    let bs = c.args.branches in
    let out : has t i.order.items ≡ false = not_in_order (length i.talks.items) i.channels.items i.talks.items i.order i.queues c.self.invariant t (subst (λ (v : Bounded). is_blocked v.book t ≡ false) (sym c.self.view_is) c.requires.free) in
    let room : t < length i.talks.items = subst (λ (v : Bounded). t < v.room) (sym c.self.view_is) c.requires.room in
    let talk : IsTalk i.channels.items bs = subst (λ (v : Bounded). IsTalk v.book.channels bs) (sym c.self.view_is) c.requires.talk in
    subst (CanEnter i.queues (64 * t)) (sym c.as_slice.ensures.value) (can_enter (length i.talks.items) i.channels.items i.talks.items i.order i.queues c.self.invariant t bs room out talk)

pub enter-requires-clause-made : goal.enter-requires-clause-made
enter-requires-clause-made c =
    subst (AllByRecursion (λ (b : Branch). 0 < b.chan)) (sym c.as_slice.ensures.value) (on_channels c.args.self.now.book.channels c.args.branches (let talk = c.requires.talk in talk.made))

pub insert-requires-clause-new : goal.insert-requires-clause-new
insert-requires-clause-new c =
    let i = c.self.inside in
    let t = c.args.task in
    not_in_order (length i.talks.items) i.channels.items i.talks.items i.order i.queues c.self.invariant t (subst (λ (v : Bounded). is_blocked v.book t ≡ false) (sym c.self.view_is) c.requires.free)

pub invariant_of-self : goal.invariant_of-self
invariant_of-self c =
    let i = c.self.inside in
    let t = c.args.task in
    let bs = c.args.branches in
    let out : has t i.order.items ≡ false = not_in_order (length i.talks.items) i.channels.items i.talks.items i.order i.queues c.self.invariant t (subst (λ (v : Bounded). is_blocked v.book t ≡ false) (sym c.self.view_is) c.requires.free) in
    let room : t < length i.talks.items = subst (λ (v : Bounded). t < v.room) (sym c.self.view_is) c.requires.room in
    let talk : IsTalk i.channels.items bs = subst (λ (v : Bounded). IsTalk v.book.channels bs) (sym c.self.view_is) c.requires.talk in
    let os : c.insert.new.self ≡ record i.order { items = inserted t i.order.root i.order.items } = subst (λ a. c.insert.new.self ≡ record i.order { items = inserted t a i.order.items }) c.root-end.ensures.value c.insert.ensures.inserted in
    let qs : c.enter.new.queues ≡ record i.queues { items = entered i.queues.root (64 * t) bs i.queues.items } = subst (λ l. c.enter.new.queues ≡ record i.queues { items = entered i.queues.root (64 * t) l i.queues.items }) c.as_slice.ensures.value c.enter.ensures.entered in
    kept_room _ _ i.channels.items (set i.talks.items t (Some bs)) c.insert.new.self c.enter.new.queues (length-set i.talks.items t (Some bs)) (kept_wait (length i.talks.items) i.channels.items i.talks.items i.order i.queues c.self.invariant t bs room out talk c.insert.new.self c.enter.new.queues os c.insert.ensures.ring qs c.enter.ensures.ring)

pub returns : goal.returns
returns c =
    let i = c.self.inside in
    let t = c.args.task in
    let bs = c.args.branches in
    let out : has t i.order.items ≡ false = not_in_order (length i.talks.items) i.channels.items i.talks.items i.order i.queues c.self.invariant t (subst (λ (v : Bounded). is_blocked v.book t ≡ false) (sym c.self.view_is) c.requires.free) in
    let room : t < length i.talks.items = subst (λ (v : Bounded). t < v.room) (sym c.self.view_is) c.requires.room in
    let talk : IsTalk i.channels.items bs = subst (λ (v : Bounded). IsTalk v.book.channels bs) (sym c.self.view_is) c.requires.talk in
    let os : c.insert.new.self ≡ record i.order { items = inserted t i.order.root i.order.items } = subst (λ a. c.insert.new.self ≡ record i.order { items = inserted t a i.order.items }) c.root-end.ensures.value c.insert.ensures.inserted in
    let qs : c.enter.new.queues ≡ record i.queues { items = entered i.queues.root (64 * t) bs i.queues.items } = subst (λ l. c.enter.new.queues ≡ record i.queues { items = entered i.queues.root (64 * t) l i.queues.items }) c.as_slice.ensures.value c.enter.ensures.entered in
    wait_view (length i.talks.items) i.channels.items i.talks.items i.order i.queues c.self.invariant t bs room out talk c.insert.new.self os ∙ ap (λ (v : Bounded). record v { book = blocks v.book t bs }) c.self.view_is
