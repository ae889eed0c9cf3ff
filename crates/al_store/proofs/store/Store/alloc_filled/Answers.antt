use Rattle.std.proofs.Common.{length, refl, sym, arith}
use Rattle.al_store.proofs.Lives.{spans_of-lives}
use Rattle.al_store.proofs.Calls.{put_is, put_held, new_within}
use Rattle.al_store.proofs.store.Store.alloc_filled.Goals as goal

pub returns-in_default-clause-none : goal.returns-in_default-clause-none
returns-in_default-clause-none c =
    rw (← c.self.view_is, spans_of-lives c.self.inside.memory.items c.self.inside.region.blocks c.self.invariant.held) (sym c.in_default.ensures.place)

-- the new block lies in the region
pub overflow_sub-from : goal.overflow_sub-from
overflow_sub-from c =
    let within = new_within c.self.inside.region c.self.inside.memory.items c.self.invariant.sound c.self.invariant.held c.in-Some.at (length c.args.bytes.now) c.args.kind (sym c.in-Some.ensures.place) in
    within.0

pub write-requires-clause-room : goal.write-requires-clause-room
write-requires-clause-room c =
    let within = new_within c.self.inside.region c.self.inside.memory.items c.self.invariant.sound c.self.invariant.held c.in-Some.at (length c.args.bytes.now) c.args.kind (sym c.in-Some.ensures.place) in
    omega (arith, within.0, within.1, c.self.invariant.room)

pub invariant_of-self-2 : goal.invariant_of-self-2
invariant_of-self-2 c =
    record {
      sound = c.in-Some.ensures.sound;
      held = rw (c.write.ensures.written, c.in-Some.ensures.taken) (put_held c.self.inside.region c.self.inside.memory.items c.self.invariant.sound c.self.invariant.held c.in-Some.at (length c.args.bytes.now) c.args.kind (sym c.in-Some.ensures.place) c.args.bytes.now refl);
      room = rw c.in-Some.ensures.taken (omega (arith, c.self.invariant.room, c.write.ensures.capacity));
    }

pub returns-clause-place : goal.returns-clause-place
returns-clause-place c =
    rw (← c.self.view_is, spans_of-lives c.self.inside.memory.items c.self.inside.region.blocks c.self.invariant.held) (sym c.in-Some.ensures.place)

pub returns-clause-filled : goal.returns-clause-filled
returns-clause-filled c =
    rw (c.write.ensures.written, c.in-Some.ensures.taken, ← c.self.view_is) (put_is c.self.inside.region c.self.inside.memory.items c.self.invariant.sound c.self.invariant.held c.in-Some.at (length c.args.bytes.now) c.args.kind (sym c.in-Some.ensures.place) c.args.bytes.now refl)
