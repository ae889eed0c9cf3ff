use Rattle.std.proofs.Common.{rules, arith, ◌≡◌, ℕ, ◌+◌, ◌-◌, ◌<◌, length, List, [], ◌∷◌, ◌++◌, None, sym, ap, ◌∙◌, subst, Option, slice_index_or, length-append}
use base.Stored.{Gv}
use Rattle.atomic_table.specs.Table.{Me, Splits}
use Rattle.al_event.specs.declared.entry.Entry.{Entry}
use Rattle.store_lock.specs.declared.known.Share.{Share}
use Rattle.store_lock.specs.declared.known.View.{View}
use Rattle.store_lock.specs.declared.pass.Pass.{Pass}
use Rattle.store_lock.specs.Rule.{Rule, share, view, resting, new_shares}
use Rattle.store_lock.specs.Steps.{without_first, first_alone}
use Rattle.store_lock.specs.Locks.{lock_origin, lock_seats}
use Rattle.store_lock.specs.Passes.{IsNew}
use Rattle.store_lock.proofs.Dealing.{splits, new_shares-AreAbove}
use Rattle.store_lock.proofs.Members.{new_shares-next, pass_with_seat, EachAt-push}
use Rattle.store_lock.proofs.lock.StoreLock.deal.Goals as goal

pub split_seat-other-requires : goal.split_seat-other-requires
split_seat-other-requires g c =
    let V = g.V.Kept in
    let S = Option g.row.V.Denot in
    let lock = c.args.self.now in
    let i = c.loop-number.invariant in
    let n : ℕ = c.loop-number.number in
    let origin : Gv = V.memo (lock_origin lock) in
    let seats : ℕ = lock_seats lock in
    let base : List Entry = V.entries (lock_origin lock) in
    let others : List Share = new_shares origin (n + 1) (seats - (n + 1)) in
    let all = c.requires.seats in
    let below : n < seats = omega (arith, i.2, all) in
    let me : c.loop-number.seat.me.0 ≡ view (share n origin [] None ∷ others) base None = ap (λ (m : Me S View). m.0) i.0.me ∙ ap (λ (ss : List Share). view ss base None) (new_shares-next origin n seats below) in (
      i.0.table,
      search rules,
      subst (λ (v : View). Splits (Rule V.memo V.entries V.fixed V.lent (lock_origin lock) seats) c.loop-number.seat.id v (without_first v) (first_alone v)) (sym me)
          (splits V.memo V.entries V.fixed V.lent (lock_origin lock) seats c.loop-number.seat.id (share n origin [] None) others base (new_shares-AreAbove origin n (n + 1) (seats - (n + 1)) (omega arith))),
    )

pub loop-number-preserved : goal.loop-number-preserved
loop-number-preserved g c =
    let V = g.V.Kept in
    let S = Option g.row.V.Denot in
    let lock = c.args.self.now in
    let i = c.loop-number.invariant in
    let n : ℕ = c.loop-number.number in
    let origin : Gv = V.memo (lock_origin lock) in
    let seats : ℕ = lock_seats lock in
    let base : List Entry = V.entries (lock_origin lock) in
    let others : List Share = new_shares origin (n + 1) (seats - (n + 1)) in
    let all = c.requires.seats in
    let below : n < seats = omega (arith, i.2, all) in
    let me : c.loop-number.seat.me ≡ (view (share n origin [] None ∷ others) base None, []) =
    i.0.me ∙ ap (λ (ss : List Share). let m : Me S View = (view ss base None, []) in m) (new_shares-next origin n seats below) in
    let s = c.split_seat-other.ensures in
    let p : Pass = c.new.result in
    let badge = c.new.ensures.badge in
    let seat : c.split_seat-other.result.me ≡ (resting (share n origin [] None) base, []) = s.4 ∙ ap (λ (m : Me S View). let w : Me S View = (first_alone m.0, []) in w) me in
    let is = pass_with_seat V.memo lock p n [] None base c.new.ensures.number (ap (λ b. b.table_id) badge ∙ (c.into_badge.ensures.0 ∙ (s.3 ∙ i.0.table)))
    (ap (λ b. b.views) badge ∙ (c.into_badge.ensures.2 ∙ ap (λ (m : Me S View). m.0 ∷ []) seat)) in
    let fresh : IsNew V.memo V.entries lock n p = record { member = record { pass = is.0; rests = c.new.ensures.rests; number_is = c.new.ensures.number }; own_is = is.1; seen_is = is.2; loan_is = is.3 } in
    let items = c.push_reserved.ensures.items in
    let before : List Pass = c.loop-number.passes.items in
    let long = i.0.count in
    let more : length (before ++ p ∷ []) ≡ n + 1 = omega (arith, length-append before (p ∷ []), long) in (
      record {
        table = s.0 ∙ i.0.table;
        me = s.2 ∙ ap (λ (m : Me S View). (without_first m.0, m.1)) me;
        count = ap (λ (ps : List Pass). length ps) items ∙ more;
        each = subst (λ (ps : List Pass). (k : ℕ) (d : Pass) → k < length ps → IsNew V.memo V.entries lock k (slice_index_or ps k d)) (sym items) (EachAt-push (IsNew V.memo V.entries lock) before p n long i.0.each fresh);
      },
      c.push_reserved.ensures.capacity ∙ i.1,
      omega arith,
    )
