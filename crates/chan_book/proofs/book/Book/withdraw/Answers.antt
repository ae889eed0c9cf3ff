use Rattle.std.proofs.Common.{◌≡◌, ◌<◌, ◌*◌, true, length, set, Some, None, List, subst, sym, ap, ◌∙◌, length-set, eqb, arith}
use Rattle.std.specs.Prelude.{slice_get}
use Rattle.al_event.specs.declared.act.Branch.{Branch}
use Rattle.al_world.specs.Talks.{withdraws}
use Rattle.al_world.specs.Transfers.{IsIn}
use Rattle.chan_book.specs.Links.{has, without}
use Rattle.chan_book.specs.Book.{Bounded, bounded, is_blocked, branches_in, branches_at, IsTalk, IsKept, CanLeave, left}
use Rattle.chan_book.proofs.Kept.{in_order, in_room, get_or_read, can_leave, own_talk, kept_withdraw, kept_room, withdraw_view, withdrawn_branch}
use Rattle.chan_book.proofs.book.Book.withdraw.Goals as goal

pub index_mut-requires : goal.index_mut-requires
index_mut-requires c =
    let i = c.self.inside in
    let t = c.args.task in
    let is_in : has t i.order.items ≡ true = in_order (length i.talks.items) i.channels.items i.talks.items i.order i.queues c.self.invariant t (subst (λ (v : Bounded). is_blocked v.book t ≡ true) (sym c.self.view_is) c.requires) in
    omega (arith, in_room (length i.talks.items) i.channels.items i.talks.items i.order i.queues c.self.invariant t is_in)

pub unreachable-requires : goal.unreachable-requires
unreachable-requires c =
    let i = c.self.inside in
    let t = c.args.task in
    let is_in : has t i.order.items ≡ true = in_order (length i.talks.items) i.channels.items i.talks.items i.order i.queues c.self.invariant t (subst (λ (v : Bounded). is_blocked v.book t ≡ true) (sym c.self.view_is) c.requires) in
    let there : t < length i.talks.items = in_room (length i.talks.items) i.channels.items i.talks.items i.order i.queues c.self.invariant t is_in in
    let own : branches_at i.talks.items t ≡ branches_in None = ap branches_in (sym (get_or_read i.talks.items t c.index_mut.result.now there c.index_mut.ensures.value) ∙ sym c.take.ensures.value ∙ c.in_default.is) in
    let talk : IsTalk i.channels.items (branches_at i.talks.items t) = own_talk (length i.talks.items) i.channels.items i.talks.items i.order i.queues c.self.invariant t is_in in
    let some : 0 < length (branches_in None) = subst (λ (l : List Branch). 0 < length l) own talk.some in
    omega (arith, some)

pub leave-requires-clause-there : goal.leave-requires-clause-there
leave-requires-clause-there c =
    let i = c.self.inside in
    let t = c.args.task in
    let is_in : has t i.order.items ≡ true = in_order (length i.talks.items) i.channels.items i.talks.items i.order i.queues c.self.invariant t (subst (λ (v : Bounded). is_blocked v.book t ≡ true) (sym c.self.view_is) c.requires) in
    let there : t < length i.talks.items = in_room (length i.talks.items) i.channels.items i.talks.items i.order i.queues c.self.invariant t is_in in
    let own : branches_at i.talks.items t ≡ c.in-Some.branches = ap branches_in (sym (get_or_read i.talks.items t c.index_mut.result.now there c.index_mut.ensures.value) ∙ sym c.take.ensures.value ∙ c.in-Some.is) in
    let count : length (branches_at i.talks.items t) ≡ c.len.result = ap length own ∙ sym c.len.ensures in
    subst (CanLeave i.queues (64 * t)) count (can_leave (length i.talks.items) i.channels.items i.talks.items i.order i.queues c.self.invariant t is_in)

pub remove-requires : goal.remove-requires
remove-requires c =
    let i = c.self.inside in
    let t = c.args.task in
    let is_in : has t i.order.items ≡ true = in_order (length i.talks.items) i.channels.items i.talks.items i.order i.queues c.self.invariant t (subst (λ (v : Bounded). is_blocked v.book t ≡ true) (sym c.self.view_is) c.requires) in
    is_in

pub invariant_of-self : goal.invariant_of-self
invariant_of-self c =
    let i = c.self.inside in
    let t = c.args.task in
    let is_in : has t i.order.items ≡ true = in_order (length i.talks.items) i.channels.items i.talks.items i.order i.queues c.self.invariant t (subst (λ (v : Bounded). is_blocked v.book t ≡ true) (sym c.self.view_is) c.requires) in
    let there : t < length i.talks.items = in_room (length i.talks.items) i.channels.items i.talks.items i.order i.queues c.self.invariant t is_in in
    let own : branches_at i.talks.items t ≡ c.in-Some.branches = ap branches_in (sym (get_or_read i.talks.items t c.index_mut.result.now there c.index_mut.ensures.value) ∙ sym c.take.ensures.value ∙ c.in-Some.is) in
    let taken : c.take.new.self ≡ None = c.take.ensures.after in
    let os : c.remove.new.self ≡ record i.order { items = without t i.order.items } = c.remove.ensures.without in
    let count : c.len.result ≡ length (branches_at i.talks.items t) = c.len.ensures ∙ ap length (sym own) in
    let qs : c.leave.new.queues ≡ record i.queues { items = left (64 * t) (length (branches_at i.talks.items t)) i.queues.items } = subst (λ n. c.leave.new.queues ≡ record i.queues { items = left (64 * t) n i.queues.items }) count c.leave.ensures.left in
    let gone : IsKept (length i.talks.items) i.channels.items (set i.talks.items t None) c.remove.new.self c.leave.new.queues = kept_withdraw (length i.talks.items) i.channels.items i.talks.items i.order i.queues c.self.invariant t is_in c.remove.new.self c.leave.new.queues os c.remove.ensures.ring qs c.leave.ensures.ring in
    kept_room _ _ i.channels.items (set i.talks.items t c.take.new.self) c.remove.new.self c.leave.new.queues (length-set i.talks.items t c.take.new.self) (subst (λ x. IsKept (length i.talks.items) i.channels.items (set i.talks.items t x) c.remove.new.self c.leave.new.queues) (sym taken) gone)

pub returns-clause-withdrawn : goal.returns-clause-withdrawn
returns-clause-withdrawn c =
    let i = c.self.inside in
    let t = c.args.task in
    let is_in : has t i.order.items ≡ true = in_order (length i.talks.items) i.channels.items i.talks.items i.order i.queues c.self.invariant t (subst (λ (v : Bounded). is_blocked v.book t ≡ true) (sym c.self.view_is) c.requires) in
    let there : t < length i.talks.items = in_room (length i.talks.items) i.channels.items i.talks.items i.order i.queues c.self.invariant t is_in in
    let own : branches_at i.talks.items t ≡ c.in-Some.branches = ap branches_in (sym (get_or_read i.talks.items t c.index_mut.result.now there c.index_mut.ensures.value) ∙ sym c.take.ensures.value ∙ c.in-Some.is) in
    let taken : c.take.new.self ≡ None = c.take.ensures.after in
    let os : c.remove.new.self ≡ record i.order { items = without t i.order.items } = c.remove.ensures.without in
    let count : c.len.result ≡ length (branches_at i.talks.items t) = c.len.ensures ∙ ap length (sym own) in
    let qs : c.leave.new.queues ≡ record i.queues { items = left (64 * t) (length (branches_at i.talks.items t)) i.queues.items } = subst (λ n. c.leave.new.queues ≡ record i.queues { items = left (64 * t) n i.queues.items }) count c.leave.ensures.left in
    ap (λ x. bounded i.channels.items (set i.talks.items t x) c.remove.new.self) taken ∙ withdraw_view (length i.talks.items) i.channels.items i.talks.items i.order i.queues c.self.invariant t is_in c.remove.new.self os ∙ ap (λ (v : Bounded). record v { book = withdraws eqb t v.book }) c.self.view_is

pub returns-clause-talk : goal.returns-clause-talk
returns-clause-talk c = λ o within by.
    let i = c.self.inside in
    let t = c.args.task in
    let is_in : has t i.order.items ≡ true = in_order (length i.talks.items) i.channels.items i.talks.items i.order i.queues c.self.invariant t (subst (λ (v : Bounded). is_blocked v.book t ≡ true) (sym c.self.view_is) c.requires) in
    let there : t < length i.talks.items = in_room (length i.talks.items) i.channels.items i.talks.items i.order i.queues c.self.invariant t is_in in
    let own : branches_at i.talks.items t ≡ c.in-Some.branches = ap branches_in (sym (get_or_read i.talks.items t c.index_mut.result.now there c.index_mut.ensures.value) ∙ sym c.take.ensures.value ∙ c.in-Some.is) in
    subst (λ l. slice_get l o.number ≡ Some o.branch) own (withdrawn_branch (length i.talks.items) i.channels.items i.talks.items i.order i.queues c.self.invariant t is_in o (subst (λ (v : Bounded). IsIn v.book.waiting o) (sym c.self.view_is) within) by)
