use Rattle.std.proofs.Common.{◌≡◌, ◌+◌, ◌-◌, sym, arith}
use Rattle.al_event.specs.Store.{region_base}
use Rattle.al_store.specs.Memory.{cleared}
use Rattle.al_store.proofs.Calls.{alloc_none, alloc_is, alloc_held, new_within}
use Rattle.al_store.proofs.store.Store.alloc_block.Goals as goal

pub returns-in_default-clause-err : goal.returns-in_default-clause-err
returns-in_default-clause-err c =
    rw (← c.self.view_is) (alloc_none c.self.inside.region c.self.inside.memory.items c.self.invariant.sound c.self.invariant.held c.args.bytes c.args.kind (sym c.in_default.ensures.place))

-- the new block lies in the region
pub overflow_sub-from : goal.overflow_sub-from
overflow_sub-from c =
    let within = new_within c.self.inside.region c.self.inside.memory.items c.self.invariant.sound c.self.invariant.held c.in-Some.at c.args.bytes c.args.kind (sym c.in-Some.ensures.place) in
    within.0

pub clear-requires-clause-room : goal.clear-requires-clause-room
clear-requires-clause-room c =
    let within = new_within c.self.inside.region c.self.inside.memory.items c.self.invariant.sound c.self.invariant.held c.in-Some.at c.args.bytes c.args.kind (sym c.in-Some.ensures.place) in
    omega (arith, within.0, within.1, c.self.invariant.room)

pub invariant_of-self-2 : goal.invariant_of-self-2
invariant_of-self-2 c =
    let m = c.self.inside.memory.items in
    let from = c.in-Some.at - region_base in
    let bytes : from + c.args.bytes - from ≡ c.args.bytes = omega arith in
    let cleared : c.clear.new.memory.items ≡ cleared m from c.args.bytes = rw bytes at c.clear.ensures.cleared in
    record {
      sound = c.in-Some.ensures.sound;
      held = rw (cleared, c.in-Some.ensures.taken) (alloc_held c.self.inside.region m c.self.invariant.sound c.self.invariant.held c.in-Some.at c.args.bytes c.args.kind (sym c.in-Some.ensures.place));
      room = rw c.in-Some.ensures.taken (omega (arith, c.self.invariant.room, c.clear.ensures.capacity));
    }

pub returns-clause-ok : goal.returns-clause-ok
returns-clause-ok c =
    let m = c.self.inside.memory.items in
    let from = c.in-Some.at - region_base in
    let bytes : from + c.args.bytes - from ≡ c.args.bytes = omega arith in
    let cleared : c.clear.new.memory.items ≡ cleared m from c.args.bytes = rw bytes at c.clear.ensures.cleared in
    rw (cleared, c.in-Some.ensures.taken, ← c.self.view_is) (alloc_is c.self.inside.region m c.self.invariant.sound c.self.invariant.held c.in-Some.at c.args.bytes c.args.kind (sym c.in-Some.ensures.place))
