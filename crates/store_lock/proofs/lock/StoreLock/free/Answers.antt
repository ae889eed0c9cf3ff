use Rattle.std.proofs.Common.{rules, ◌≡◌, ℕ, ◌+◌, sym, ◌∙◌, subst, List, [], ◌∷◌, ◌++◌, length, drop, Option, Some, ap}
use mathlib.Core.Option.{none}
use base.Stored.{Gv}
use Rattle.atomic_table.specs.Table.{Me, Allows, step, rest}
use Rattle.al_event.specs.declared.entry.Entry.{Entry}
use Rattle.store_lock.specs.declared.known.Share.{Share}
use Rattle.store_lock.specs.declared.known.View.{View}
use Rattle.store_lock.specs.Rule.{Rule, view, share, resting}
use Rattle.store_lock.specs.Steps.{GivesBack, given_back}
use Rattle.store_lock.specs.Locks.{lock_origin, lock_seats}
use Rattle.store_lock.specs.Passes.{own, pass_number, turn_value, turn_was}
use Rattle.store_lock.proofs.Keeping.{frees}
use Rattle.store_lock.proofs.Members.{share_in, pass_with_seat}
use Rattle.store_lock.proofs.lock.StoreLock.free.Goals as goal

-- the seat, once the value is back in its slot
back_in_slot : {S : Type 0} (before after : Me S View) (sh : Share) (seen : List Entry) (held : Option Gv) (old new : S)
    → after ≡ (before.0, (0, new) ∷ rest before.1) → before ≡ (view (sh ∷ []) seen held, (0, old) ∷ []) → after ≡ (view (sh ∷ []) seen held, (0, new) ∷ [])
back_in_slot {S = S} before after sh seen held old new put was = put ∙ ap (λ (m : Me S View). (m.0, (0, new) ∷ rest m.1)) was

pub store-requires : goal.store-requires
store-requires g c =
    let V = g.V.Kept in
    let S = Option g.row.V.Denot in
    let lock = c.args.self.now in
    let turn = c.args.turn in
    let f = c.requires.value in
    let n : ℕ = c.count-count.result in
    let slots : ℕ = lock.table.shared.table_id.slots in
    let sh : Share = share_in V.memo lock c.args.pass.now in
    let seat = c.exchange-nothing.new.seat in
    let taken : List Entry = V.entries (turn_was turn) in
    let held = Some (V.memo (turn_was turn)) in
    let me : seat.me ≡ (view (sh ∷ []) taken held, (0, Some (turn_value turn)) ∷ []) = back_in_slot turn.seat.me seat.me sh taken held _ (Some (turn_value turn)) c.exchange-nothing.ensures.3 c.requires.turn.me in
    let Q : Me S View → Type 0 = λ m. Allows (Rule V.memo V.entries V.fixed V.lent (lock_origin lock) (lock_seats lock)) slots seat.id m 0 (λ _. n + n)
    (λ _. GivesBack V.entries V.lent (step slots 0 (n + n) 0 none) m (n + n)) in (
      c.exchange-nothing.ensures.0 ∙ c.requires.turn.lock_is,
      search rules,
      subst Q (sym me) (frees V.memo V.entries V.fixed V.lent (lock_origin lock) (lock_seats lock) g.met.V.Kept.memo_tells slots seat.id sh (turn_was turn) (turn_value turn) f.new (n + n)
          (ap (λ (k : ℕ). k + k) c.count-count.ensures.all) record { fixed_is = f.fixed_is; longer = f.longer; own = f.own_are; others = f.others }),
    )

pub returns : goal.returns
returns g c =
    let V = g.V.Kept in
    let S = Option g.row.V.Denot in
    let lock = c.args.self.now in
    let turn = c.args.turn in
    let k : ℕ = pass_number c.args.pass.now in
    let sh : Share = share_in V.memo lock c.args.pass.now in
    let taken : List Entry = V.entries (turn_was turn) in
    let held = Some (V.memo (turn_was turn)) in
    let me = back_in_slot turn.seat.me c.exchange-nothing.new.seat.me sh taken held _ (Some (turn_value turn)) c.exchange-nothing.ensures.3 c.requires.turn.me in
    let mine : List Entry = own c.args.pass.now ++ drop (length taken) (V.entries (turn_value turn)) in
    let last : c.store.new.seat.me ≡ (resting (share k (V.memo (lock_origin lock)) mine (V.lent (turn_value turn) k)) (V.entries (turn_value turn)), []) =
    c.store.ensures.2 ∙ ap (λ (m : Me S View). given_back V.entries V.lent m.0 m.1) me in
    let badge = c.new.ensures.badge in
    let p = pass_with_seat V.memo lock c.new.result k mine (V.lent (turn_value turn) k) (V.entries (turn_value turn)) c.new.ensures.number
    (ap (λ b. b.table_id) badge ∙ (c.into_badge.ensures.0 ∙ (c.store.ensures.0 ∙ (c.exchange-nothing.ensures.0 ∙ c.requires.turn.lock_is))))
    (ap (λ b. b.views) badge ∙ (c.into_badge.ensures.2 ∙ ap (λ (m : Me S View). m.0 ∷ []) last)) in
    record { pass = p.0; rests = c.new.ensures.rests; number_is = c.new.ensures.number; own_is = p.1; seen_is = p.2; loan_is = p.3 }
