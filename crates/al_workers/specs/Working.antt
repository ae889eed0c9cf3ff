-- Workers of a lock round a world: what their passes are and what is lent to them.
use Rattle.std.specs.Prelude.{◌≡◌, ℕ, ◌⊎◌, ◌<◌, ◌≤◌, List, [], ◌∷◌, ◌++◌, length, take, Some}
use mathlib.Core.List.{IsPrefix}
use Rattle.al_event.specs.declared.entry.Entry.{Entry}
use Rattle.store_lock.specs.declared.lock.StoreLock.{StoreLock}
use Rattle.store_lock.specs.declared.pass.Pass.{Pass}
use Rattle.store_lock.specs.declared.turn.Turn.{Turn}
use Rattle.store_lock.specs.Locks.{lock_origin}
use Rattle.store_lock.specs.Passes.{pass_number, seen, loan, turn_value, turn_was, HoldsTurn, IsPassOf, IsMember, IsTurnOf}
use Rattle.rv_exec.specs.declared.run.Held.{Held}
use Rattle.rv_exec.specs.declared.run.Asked.{Asked}
use Rattle.rv_exec.specs.Machine.{ask}
use Rattle.rv_exec.specs.Shown.{hart_of, privates_of, bytes_of, asked_of, WaitsFor}
use Rattle.al_core.specs.declared.sharing.Terms.{Terms}
use Rattle.al_core.specs.History.{History, next_ask, loan_of}
use Rattle.al_core.specs.Sharing.{world_entries, terms_of}
use Rattle.al_core.specs.WorldMemo.{world_memo}

abbrev pub WorldLock : Type 0
WorldLock = StoreLock History Terms

-- the pass number k of the lock, which holds no turn; its worker may be lent to
pub record IsWorkersPass (lock : WorldLock) (k : ℕ) (p : Pass) : Type 0 where
  pub member : IsMember world_memo lock k p
  pub small : k < 64

-- The pass has just taken this turn. The world is the one that the pass has seen, later on: the image and the limits are those
-- that the lock was made with, the entries that were seen stand first, and what is lent to the worker is what the pass knows.
pub record HasTaken (lock : WorldLock) (p : Pass) (t : Turn History) : Type 0 where
  pub pass : IsPassOf world_memo lock p
  pub holds : HoldsTurn p
  pub turn : IsTurnOf world_memo world_entries lock p t
  pub was : turn_was t ≡ turn_value t
  pub small : pass_number p < 64
  pub terms_are : terms_of (turn_value t) ≡ terms_of (lock_origin lock)
  pub longer : IsPrefix (seen p) (turn_value t).entries
  pub loan_is : loan_of (turn_value t) (pass_number p) ≡ loan p

-- This is lent to the pass's worker: the first ready task of the proc of its loan, as the run of the image along the first
-- entries has it, or further on in the same stretch, so that it asks the same next. Whatever other workers do, this stays so.
pub record IsLentTo (lock : WorldLock) (p : Pass) (held : Held) : Type 0 where
  pub since : ℕ
  pub loan_is : loan p ≡ Some (record { proc = held.proc; since = since })
  pub within : since ≤ length (seen p)
  pub asks : next_ask (lock_origin lock) (take since (seen p)) held.proc ≡ Some (ask (lock_origin lock).image (hart_of held.hart) (privates_of held.privates))
  pub bytes : bytes_of held.privates ≡ (lock_origin lock).image.privates

-- this is what a task asked that is lent to the pass's worker
pub record IsAskedOf (lock : WorldLock) (p : Pass) (asked : Asked) : Type 0 where
  pub since : ℕ
  pub loan_is : loan p ≡ Some (record { proc = asked.held.proc; since = since })
  pub within : since ≤ length (seen p)
  pub asks : next_ask (lock_origin lock) (take since (seen p)) asked.held.proc ≡ Some (asked_of (lock_origin lock).image asked)
  pub waits : WaitsFor asked.held.hart asked.act
  pub bytes : bytes_of asked.held.privates ≡ (lock_origin lock).image.privates

-- a worker made one entry of this proc; or none, since the world was over
abbrev pub AddsOne : (proc worker : ℕ) → List Entry → List Entry → Type 0
AddsOne proc worker old new =
    (new ≡ old) ⊎ ((pick : ℕ) × (new ≡ old ++ record { proc = proc; pick = pick; worker = worker } ∷ []))
