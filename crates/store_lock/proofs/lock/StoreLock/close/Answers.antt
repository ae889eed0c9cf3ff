use Rattle.std.proofs.Common.{sym, subst}
use Rattle.store_lock.specs.Rule.{CoversAll}
use Rattle.store_lock.specs.Locks.{lock_seats}
use Rattle.store_lock.proofs.Members.{covers_all, closes}
use Rattle.store_lock.proofs.lock.StoreLock.close.Goals as goal

pub end-requires-clause-view : goal.end-requires-clause-view
end-requires-clause-view g c =
    let lock = c.args.self in
    let view = c.gather-seat.ensures.view in
    (view.0, subst (CoversAll (lock_seats lock)) (sym view.1) (covers_all g.V.Kept.memo lock c.args.passes.items c.requires))

pub returns : goal.returns
returns g c =
    let V = g.V.Kept in
    closes V.memo V.entries V.fixed V.lent c.args.self c.args.passes.items c.end.result c.gather-seat.result.me.0.shares c.requires c.gather-seat.ensures.view.1 c.end.ensures
