-- For a caller: the passes that go back to a lock are all that it has.
use Rattle.std.proofs.Common.{◌≡◌, ℕ, ◌<◌, List, length, sym, subst}
use base.Stored.{Gv}
use Rattle.al_event.specs.declared.entry.Entry.{Entry}
use Rattle.store_lock.specs.declared.pass.Pass.{Pass}
use Rattle.store_lock.specs.declared.lock.StoreLock.{StoreLock}
use Rattle.store_lock.specs.Locks.{lock_seats}
use Rattle.store_lock.specs.Passes.{EachAt, IsMember, AreNew, AreAllAtRest}

module _ {V F : Type 0} (memo : V → Gv) (lock : StoreLock V F) where
  -- where the pass at each place is still the one with that number
  pub all_at_rest : (ps : List Pass) → length ps ≡ lock_seats lock → EachAt (IsMember memo lock) ps → AreAllAtRest memo lock ps
  all_at_rest ps count each = record {
    passes = λ k d inside. (each k d inside).pass;
    rest = λ k d inside. (each k d inside).rests;
    every = λ m below. let inside : m < length ps = subst (λ (n : ℕ). m < n) (sym count) below in (m, inside, λ d. (each m d inside).number_is);
  }

  -- new passes are
  pub new_members : (entries : V → List Entry) (ps : List Pass) → AreNew memo entries lock ps → EachAt (IsMember memo lock) ps
  new_members entries ps new k d inside = (new.each k d inside).member
