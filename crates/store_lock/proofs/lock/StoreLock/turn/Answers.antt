use Rattle.std.proofs.Common.{◌≡◌, ℕ, sym, ◌∙◌, subst, List, [], ◌∷◌, Option, Some, None, ap}
use Rattle.atomic_table.specs.Table.{Me, rest}
use Rattle.store_lock.specs.declared.known.View.{View}
use Rattle.store_lock.specs.Rule.{resting}
use Rattle.store_lock.specs.Locks.{lock_origin}
use Rattle.store_lock.specs.Passes.{Finds}
use Rattle.store_lock.proofs.Members.{share_in, seat_of_pass, finds}
use Rattle.store_lock.proofs.lock.StoreLock.turn.Goals as goal

-- the slots that a seat holds, and the value of the first
abbrev slots_of : {S : Type 0} → Me S View → List (ℕ × S)
slots_of me = me.1

abbrev first_value : {S : Type 0} → S → List (ℕ × S) → S
first_value d [] = d
first_value d (x ∷ xs) = x.1

pub wait_for-requires : goal.wait_for-requires
wait_for-requires g c =
    let S = Option g.row.V.Denot in
    let lock = c.args.self.now in
    let p = c.args.pass.now in
    let seat = c.into_seat-seat.ensures in
    let badge = c.replace-badge.ensures.value ∙ c.requires.rests in
    let me = seat_of_pass g.V.Kept.memo lock p c.replace-badge.result c.into_seat-seat.result.me c.requires.pass badge seat.2 seat.3 in
    record {
      table_is = seat.0 ∙ (ap (λ b. b.table_id) badge ∙ c.requires.pass.lock_is);
      share = share_in g.V.Kept.memo lock p;
      me = me ∙ sym (ap (λ (m : Me S View). (resting (share_in g.V.Kept.memo lock p) m.0.seen, [])) me);
    }

pub exchange-requires : goal.exchange-requires
exchange-requires g c =
    let S = Option g.row.V.Denot in
    let badge = c.replace-badge.ensures.value ∙ c.requires.rests in
    let takes = c.wait_for.ensures.takes in (
      c.wait_for.ensures.table ∙ (c.into_seat-seat.ensures.0 ∙ (ap (λ b. b.table_id) badge ∙ c.requires.pass.lock_is)),
      (Some takes.value, ap (slots_of {S = S}) takes.me ∙ sym (ap (λ (m : Me S View). (0, Some takes.value) ∷ rest m.1) takes.me)),
    )

pub returns-clause-finds : goal.returns-clause-finds
returns-clause-finds g c =
    let V = g.V.Kept in
    let S = Option g.row.V.Denot in
    let lock = c.args.self.now in
    let p = c.args.pass.now in
    let seat = c.into_seat-seat.ensures in
    let badge = c.replace-badge.ensures.value ∙ c.requires.rests in
    let me = seat_of_pass V.memo lock p c.replace-badge.result c.into_seat-seat.result.me c.requires.pass badge seat.2 seat.3 in
    let takes = c.wait_for.ensures.takes in
    let out : c.exchange.result ≡ Some takes.value = ap (first_value None) (sym c.exchange.ensures.2 ∙ ap (slots_of {S = S}) takes.me) in
    let some_value : c.exchange.result ≡ Some c.in-Some.value = c.in-Some.is in
    let same : takes.value ≡ c.in-Some.value = cc in
    subst (Finds V.entries V.fixed V.lent (lock_origin lock) p) same (finds V.memo V.entries V.fixed V.lent lock g.met.V.Kept.memo_tells p c.into_seat-seat.result.me c.wait_for.new.seat.me me takes)
