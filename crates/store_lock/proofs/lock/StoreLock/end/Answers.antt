use Rattle.std.proofs.Common.{◌≡◌, Some, None, sym, ◌∙◌, subst}
use mathlib.Core.Option.{some-injective}
use Rattle.store_lock.specs.Ends.{Ends}
use Rattle.store_lock.proofs.Joining.{ends}
use Rattle.store_lock.proofs.lock.StoreLock.end.Goals as goal

pub unreachable-requires : goal.unreachable-requires
unreachable-requires g c =
    let V = g.V.Kept in
    let k = c.args.self.table.shared.key in
    let t = ends V.memo V.entries V.fixed V.lent k.origin.value k.seats _ _ c.args.seat.id c.args.seat.me.0 c.requires.view.0 c.requires.view.1 c.close_with-closed.ensures.values.2 in
    let home : c.take-slot.result ≡ Some t.0 = some-injective _ _ (sym c.take-slot.ensures.value ∙ t.1) in
    let away : c.take-slot.result ≡ None = c.in_default.is in
    absurd (cc)

pub returns : goal.returns
returns g c =
    let V = g.V.Kept in
    let k = c.args.self.table.shared.key in
    let t = ends V.memo V.entries V.fixed V.lent k.origin.value k.seats _ _ c.args.seat.id c.args.seat.me.0 c.requires.view.0 c.requires.view.1 c.close_with-closed.ensures.values.2 in
    let home : c.take-slot.result ≡ Some t.0 = some-injective _ _ (sym c.take-slot.ensures.value ∙ t.1) in
    let out : c.take-slot.result ≡ Some c.in-Some.value = c.in-Some.is in
    let same : t.0 ≡ c.in-Some.value = cc in
    subst (λ v. Ends V.memo V.entries V.fixed V.lent k.origin.value k.seats v c.args.seat.me.0.shares) same t.2
