use Rattle.std.proofs.Common.{◌≡◌, ℕ, List, ◌++◌, length, take, drop, ◌∙◌, sym, ap}
use Rattle.std.proofs.lemmas.List.{take_at}
use Rattle.std.proofs.lemmas.Result.{err_from_is_err_and}
use Rattle.al_event.specs.Store.{bytes_of, overwritten}
use Rattle.al_store.proofs.Calls.{access_within, store_is, store_size, store_held, store_trap, width_some}
use Rattle.al_store.proofs.store.Store.store.Goals as goal

pub returns-in_err-from-clause-err : goal.returns-in_err-from-clause-err
returns-in_err-from-clause-err c =
    let p = err_from_is_err_and c.from_residual.result c.from_residual.ensures.1 in
    rw (p.1, p.2, ← c.self.view_is) (store_trap c.self.inside.region c.self.inside.memory.items c.self.invariant.sound c.self.invariant.held c.args.at c.args.size c.args.word _ (sym c.access.ensures ∙ c.in_err-from.was))

-- an access that has a place lies in the memory
pub put_word-requires-clause-within : goal.put_word-requires-clause-within
put_word-requires-clause-within c =
    let within = access_within c.self.inside.region c.self.inside.memory.items c.self.invariant.sound c.self.invariant.held c.args.at c.args.size c.in_ok-from.from (sym c.access.ensures ∙ c.in_ok-from.was) in
    rw (c.from.ensures, c.deref_mut.ensures.value) within.2

-- a slice that was written is the whole list again
written_back : (xs ys : List ℕ) (n : ℕ) → length ys ≡ n → take n (ys ++ drop (length ys) xs) ≡ ys
written_back xs ys n is = take_at ys _ n is

pub invariant_of-self : goal.invariant_of-self
invariant_of-self c =
    let m = c.self.inside.memory.items in
    let place = sym c.access.ensures ∙ c.in_ok-from.was in
    let written : c.put_word.new.memory ≡ overwritten m c.in_ok-from.from (bytes_of c.args.size c.args.word) = rw (c.from.ensures, c.deref_mut.ensures.value) at c.put_word.ensures in
    let size = ap length written ∙ store_size c.self.inside.region m c.self.invariant.sound c.self.invariant.held c.args.at c.args.size c.args.word c.in_ok-from.from place in
    let len = size ∙ sym (ap length c.deref_mut.ensures.value) ∙ c.deref_mut.ensures.len in
    let back = written_back m c.put_word.new.memory c.self.inside.memory.len len ∙ written in
    record {
      sound = c.self.invariant.sound;
      held = rw back (store_held c.self.inside.region m c.self.invariant.sound c.self.invariant.held c.args.at c.args.size c.args.word c.in_ok-from.from place);
      room = c.self.invariant.room;
    }

pub returns-clause-ok : goal.returns-clause-ok
returns-clause-ok c =
    let m = c.self.inside.memory.items in
    let place = sym c.access.ensures ∙ c.in_ok-from.was in
    let written : c.put_word.new.memory ≡ overwritten m c.in_ok-from.from (bytes_of c.args.size c.args.word) = rw (c.from.ensures, c.deref_mut.ensures.value) at c.put_word.ensures in
    let size = ap length written ∙ store_size c.self.inside.region m c.self.invariant.sound c.self.invariant.held c.args.at c.args.size c.args.word c.in_ok-from.from place in
    let len = size ∙ sym (ap length c.deref_mut.ensures.value) ∙ c.deref_mut.ensures.len in
    let back = written_back m c.put_word.new.memory c.self.inside.memory.len len ∙ written in
    rw (back, ← c.self.view_is) (store_is c.self.inside.region m c.self.invariant.sound c.self.invariant.held c.args.at c.args.size c.args.word c.in_ok-from.from (width_some c.args.size c.requires) place)
