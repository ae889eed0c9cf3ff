use Rattle.std.proofs.Common.{◌≡◌, Bool, true, false, IsTrue, refl, sym}
use Rattle.std.specs.List.{list_any}
use Rattle.al_event.specs.Store.{begins_at}
use Rattle.al_store.proofs.Lives.{held-without}
use Rattle.al_store.proofs.Calls.{free_is, free_trap}
use Rattle.al_store.proofs.store.Store.free_block.Goals as goal

not_there : (t : Bool) → (IsTrue t → false ≡ true) → t ≡ false
not_there true h = sym (h refl)
not_there false h = refl

pub returns-in-Err-clause-err : goal.returns-in-Err-clause-err
returns-in-Err-clause-err c =
    let there = not_there (list_any (begins_at c.args.at c.args.kind) c.self.inside.region.blocks) c.in-Err.ensures.there.1 in
    rw (← c.self.view_is) (free_trap c.self.inside.region c.self.inside.memory.items c.self.invariant.sound c.self.invariant.held c.args.at c.args.kind (sym c.if-is_nil.ensures) there)

pub invariant_of-self-2 : goal.invariant_of-self-2
invariant_of-self-2 c = record {
  sound = c.in_default.ensures.sound;
  held = rw c.in_default.ensures.given (held-without c.self.inside.memory.items c.self.inside.region.blocks c.args.at c.args.kind c.self.invariant.held);
  room = rw c.in_default.ensures.given c.self.invariant.room;
}

pub returns-clause-ok : goal.returns-clause-ok
returns-clause-ok c =
    rw (← c.self.view_is, c.in_default.ensures.given) (free_is c.self.inside.region c.self.inside.memory.items c.self.invariant.sound c.self.invariant.held c.args.at c.args.kind (sym c.if-is_nil.ensures) (c.in_default.ensures.there.0 refl))
