use Rattle.std.proofs.Common.{rules, ◌≡◌, ◌%◌, ◌+◌, sym, ◌∙◌, subst, eqb, Option, add-one}
use mathlib.Core.Option.{none}
use prog.Atomic.{either}
use Rattle.atomic_table.specs.Table.{Me, Allows, step}
use Rattle.store_lock.specs.declared.known.View.{View}
use Rattle.store_lock.specs.Rule.{Rule}
use Rattle.store_lock.specs.Steps.{GrabsOrMisses}
use Rattle.store_lock.proofs.Keeping.{grabs}
use Rattle.store_lock.proofs.lock.StoreLock.wait_for.Goals as goal

pub compare_exchange-was-requires : goal.compare_exchange-was-requires
compare_exchange-was-requires g c =
    let V = g.V.Kept in
    let k = c.args.self.now.table.shared.key in
    let found = c.peek-found.result in
    let even : found % 2 ≡ 0 = search rules in
    let me = c.loop.invariant.1 ∙ c.requires.me in
    let one = c.args.self.now.slots in
    let Q : Me (Option g.row.V.Denot) View → Type 0 = λ m. Allows (Rule V.memo V.entries V.fixed V.lent k.origin.value k.seats) 1 c.loop.seat.id m 0 (λ x. either (eqb x found) (found + 1) x)
    (GrabsOrMisses V.memo V.entries V.fixed V.lent (step 1 0 found (found + 1) none) m) in (
      search rules,
      search rules,
      rw one (subst Q (sym me) (rw add-one (grabs V.memo V.entries V.fixed V.lent k.origin.value k.seats c.loop.seat.id c.requires.share c.args.seat.now.me.0.seen found even))),
    )
