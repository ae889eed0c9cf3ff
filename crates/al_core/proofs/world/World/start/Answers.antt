use Rattle.std.proofs.Common.{refl, subst, sym}
use Rattle.al_core.specs.History.{opening}
use Rattle.al_core.specs.Stands.{Parts, Stands}
use Rattle.al_core.proofs.FirstWorld.{first_stands}
use Rattle.al_core.proofs.world.World.start.Goals as goal

pub invariant_of-result : goal.invariant_of-result
invariant_of-result c =
    let r = c.requires in
    let e = c.in_ok-machinery.ensures in
    let m = c.in_ok-machinery.machinery in
    let x : Parts = record { store = m.store; book = m.book; table = m.table; output = m.output; over = c.in_ok-machinery.over; line = 0; work = 0 } in
    let s : Stands (opening c.deref.result.now c.args.limits.region c.args.limits.entries) x = first_stands c.deref.result.now c.args.limits.region c.args.limits.entries x e.within r.some_region r.region r.entries e.store e.over e.book e.table e.output refl refl in
    record {
      stands = subst (λ es. Stands (record (opening c.args.image.value c.args.limits.region c.args.limits.entries) { entries = es }) x) (sym c.in_ok-entries.ensures.items) (subst (λ i. Stands (opening i c.args.limits.region c.args.limits.entries) x) c.deref.ensures s);
      room = c.in_ok-entries.ensures.capacity;
    }
