use Rattle.std.proofs.Common.{rules, ◌≡◌, Some, List, [], ◌∷◌, ◌++◌, sym, ap, ◌∙◌, Option, append_assoc}
use Rattle.std.proofs.lemmas.List.Elements.{All-pop}
use Rattle.atomic_table.specs.Table.{Me}
use Rattle.store_lock.specs.declared.known.Share.{Share}
use Rattle.store_lock.specs.declared.known.View.{View}
use Rattle.store_lock.specs.declared.pass.Pass.{Pass}
use Rattle.store_lock.specs.Locks.{lock_origin, lock_seats}
use Rattle.store_lock.specs.Passes.{share_of, IsAtRest, IsPassOf}
use Rattle.store_lock.proofs.Joining.{joins}
use Rattle.store_lock.proofs.Members.{share_of-share_in, seat_of_pass}
use Rattle.store_lock.proofs.lock.StoreLock.gather.Goals as goal

pub join_seat-requires : goal.join_seat-requires
join_seat-requires g c =
    let V = g.V.Kept in
    let S = Option g.row.V.Denot in
    let lock = c.args.self.now in
    let i = c.loop-pass.invariant in
    let p : Pass = c.in-Some-pop.pass in
    let is = (All-pop (IsPassOf V.memo lock) c.loop-pass.passes.items c.pop-in-loop-pass.new.self.items (Some p) c.in-Some-pop.ensures.items i.passes).1 in
    let badge = c.into_badge-in-Some-pop.ensures in
    let other = c.into_seat-other.ensures in
    let me = seat_of_pass V.memo lock p c.into_badge-in-Some-pop.result c.into_seat-other.result.me is badge other.2 other.3 in (
      i.table,
      other.0 ∙ (ap (λ b. b.table_id) badge ∙ is.lock_is),
      other.3,
      search rules,
      joins V.memo V.entries V.fixed V.lent (lock_origin lock) (lock_seats lock) c.loop-pass.seat.id c.loop-pass.seat.me.0 c.into_seat-other.result.id c.into_seat-other.result.me.0 i.idle
          (ap (λ (m : Me S View). m.0.taken) me),
    )

pub loop-pass-preserved : goal.loop-pass-preserved
loop-pass-preserved g c =
    let V = g.V.Kept in
    let S = Option g.row.V.Denot in
    let lock = c.args.self.now in
    let i = c.loop-pass.invariant in
    let p : Pass = c.in-Some-pop.pass in
    let left : List Pass = c.pop-in-loop-pass.new.self.items in
    let items = c.in-Some-pop.ensures.items in
    let passes = All-pop (IsPassOf V.memo lock) c.loop-pass.passes.items left (Some p) items i.passes in
    let rest = All-pop IsAtRest c.loop-pass.passes.items left (Some p) items i.rest in
    let other = c.into_seat-other.ensures in
    let me = seat_of_pass V.memo lock p c.into_badge-in-Some-pop.result c.into_seat-other.result.me passes.1 c.into_badge-in-Some-pop.ensures other.2 other.3 in
    let theirs : c.into_seat-other.result.me.0.shares ≡ share_of p ∷ [] = ap (λ (m : Me S View). m.0.shares) me ∙ ap (λ (s : Share). s ∷ []) (sym (share_of-share_in V.memo lock p passes.1)) in
    let joined = c.join_seat.ensures.2 in
    record {
      table = c.join_seat.ensures.0 ∙ i.table;
      slots = ap (λ (m : Me S View). m.1) joined ∙ i.slots;
      idle = ap (λ (m : Me S View). m.0.taken) joined ∙ i.idle;
      passes = passes.0;
      rest = rest.0;
      done = p ∷ i.done;
      cut = sym (append_assoc left (p ∷ []) i.done) ∙ (ap (λ (ps : List Pass). ps ++ i.done) (sym items) ∙ i.cut);
      shares = ap (λ (m : Me S View). m.0.shares) joined ∙ (λ t. theirs t ++ i.shares t);
    }
