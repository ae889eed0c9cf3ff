use Rattle.std.proofs.Common.{None, ap, ap₂, ◌∙◌, arith}
use Rattle.std.specs.Prelude.{slice_set}
use Rattle.al_world.specs.Step.{over_or, line_of}
use Rattle.al_core.specs.Kept.{history_of}
use Rattle.al_core.specs.Preparing.{over_from}
use Rattle.al_core.proofs.Making.{homed, no_run, runs_so, stands_so, does_at}
use Rattle.al_core.proofs.Turning.{live_of_world, room_for_entry, settled_here}
use Rattle.al_core.proofs.world.World.make.Goals as goal

pub added-work-requires : goal.added-work-requires
added-work-requires c =
    let k = c.self.invariant.stands.parts.little_work in
    let e = c.self.invariant.stands.limited.entries in
    let q = c.self.invariant.stands.limited.quota in
    let m = c.self.invariant.stands.limited.limit in
    omega (arith, k, e, q, m)

pub act-requires : goal.act-requires
act-requires c = rw (c.deref-2.ensures) (homed _ _ c.self.invariant.stands c.args.lent_to c.args.asked (rw (← c.self.view_is) at c.requires.asked) (live_of_world _ _ c.self.invariant.stands (rw (← c.self.view_is) at c.requires.live)))

pub overflow_cast-len : goal.overflow_cast-len
overflow_cast-len c =
    let l = (c.len.ensures ∙ c.self.inside.entries.ok.0) in
    let e = c.self.invariant.stands.limited.entries in
    let q = c.self.invariant.stands.limited.quota in
    let m = c.self.invariant.stands.limited.limit in
    omega (arith, l, e, q, m)

pub push_reserved-requires : goal.push_reserved-requires
push_reserved-requires c =
    let r = room_for_entry _ _ c.self.invariant.stands c.args.lent_to _ (rw (← c.self.view_is) at c.requires.asked).loan in
    let k = c.self.invariant.room in
    let l = c.self.inside.entries.ok.0 in
    omega (arith, r, k, l)

pub invariant_of-self : goal.invariant_of-self
invariant_of-self c = record {
  stands = rw (c.in-Err.ensures.same) c.self.invariant.stands;
  room = c.self.invariant.room;
}

pub returns-in-Err-clause-picked : goal.returns-in-Err-clause-picked
returns-in-Err-clause-picked c = λ is. (c.in-Err.ensures.range is).some

pub returns-in-Err-clause-range : goal.returns-in-Err-clause-range
returns-in-Err-clause-range c = rw (← c.self.view_is) (λ is. no_run _ _ c.self.invariant.stands c.args.lent_to c.args.asked (rw (← c.self.view_is) at c.requires.asked) (live_of_world _ _ c.self.invariant.stands (rw (← c.self.view_is) at c.requires.live)) c.args.worker c.args.pick (c.in-Err.ensures.range is))

pub returns-in-Err-clause-memory : goal.returns-in-Err-clause-memory
returns-in-Err-clause-memory c = c.in-Err.ensures.memory

pub returns-in-Err-clause-refused : goal.returns-in-Err-clause-refused
returns-in-Err-clause-refused c = c.in-Err.ensures.refused

pub returns-in-Err-clause-same : goal.returns-in-Err-clause-same
returns-in-Err-clause-same c = c.self.view_is

pub invariant_of-self-2 : goal.invariant_of-self-2
invariant_of-self-2 c = record {
  stands = stands_so _ _ c.self.invariant.stands c.args.lent_to c.args.asked (rw (← c.self.view_is) at c.requires.asked) (live_of_world _ _ c.self.invariant.stands (rw (← c.self.view_is) at c.requires.live)) c.args.worker c.args.pick c.added-work.ensures.small c.in-Ok.stop c.act.new.self (does_at c.args.asked c.self.inside.machinery c.act.new.self c.args.pick c.in-Ok.stop _ c.deref-2.result.now c.deref-2.ensures c.in-Ok.ensures.done) _ _ _ _ _ c.push_reserved.ensures.items (c.over_or-self-inside.ensures ∙ ap₂ over_or (c.over_by-over.ensures ∙ ap (λ k. over_from c.args.asked.held.proc k c.in-Ok.stop) (c.len.ensures ∙ c.self.inside.entries.ok.0)) c.end.ensures) (c.line_by-self-inside.ensures ∙ ap₂ line_of (c.over_by-over.ensures ∙ ap (λ k. over_from c.args.asked.held.proc k c.in-Ok.stop) (c.len.ensures ∙ c.self.inside.entries.ok.0)) (rw c.deref.ensures at c.line-line.ensures)) c.added-work.ensures.sum c.from.ensures;
  room = let k = c.self.invariant.room in let p = c.push_reserved.ensures.capacity in omega (arith, k, p);
}

pub returns-clause-done : goal.returns-clause-done
returns-clause-done c =
    rw (← c.self.view_is) (ap₂ (λ es k. record (history_of c.self.inside) { entries = es; loans = slice_set c.self.inside.loans k None }) c.push_reserved.ensures.items c.from.ensures)

pub returns-clause-runs : goal.returns-clause-runs
returns-clause-runs c = rw (← c.self.view_is) (runs_so _ _ c.self.invariant.stands c.args.lent_to c.args.asked (rw (← c.self.view_is) at c.requires.asked) (live_of_world _ _ c.self.invariant.stands (rw (← c.self.view_is) at c.requires.live)) c.args.worker c.args.pick c.added-work.ensures.small c.in-Ok.stop c.act.new.self (does_at c.args.asked c.self.inside.machinery c.act.new.self c.args.pick c.in-Ok.stop _ c.deref-2.result.now c.deref-2.ensures c.in-Ok.ensures.done))

pub returns-clause-here : goal.returns-clause-here
returns-clause-here c = rw (c.from.ensures) (settled_here _ _ c.self.invariant.stands c.args.lent_to c.args.asked.held.proc _ (rw (← c.self.view_is) at c.requires.asked).loan)
