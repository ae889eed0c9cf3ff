-- Workers of a lock round a desk.
use Rattle.std.specs.Prelude.{◌≡◌, ℕ, List, ◌<◌, length, slice_index_or}
use Rattle.std.specs.List.{All}
use Rattle.store_lock.specs.declared.lock.StoreLock.{StoreLock}
use Rattle.store_lock.specs.declared.pass.Pass.{Pass}
use Rattle.store_lock.specs.Passes.{pass_number, turn_value, turn_was, HoldsTurn, IsPassOf, IsMember, IsTurnOf}
use Rattle.store_lock.specs.declared.turn.Turn.{Turn}
use Rattle.lock_trial.specs.declared.crew.Worker.{Worker}
use Rattle.lock_trial.specs.DeskValue.{DeskValue, desk_entries}
use Rattle.lock_trial.specs.DeskMemo.{desk_memo}

abbrev pub DeskLock : Type 0
DeskLock = StoreLock DeskValue ℕ

-- the pass number k of the lock, which may be lent to
pub record IsWorkersPass (lock : DeskLock) (k : ℕ) (p : Pass) : Type 0 where
  pub member : IsMember desk_memo lock k p
  pub small : k < 64

-- the pass has just taken this turn, and its worker may be lent to
pub record HasJustTaken (lock : DeskLock) (p : Pass) (t : Turn DeskValue) : Type 0 where
  pub pass : IsPassOf desk_memo lock p
  pub holds : HoldsTurn p
  pub turn : IsTurnOf desk_memo desk_entries lock p t
  pub was : turn_was t ≡ turn_value t
  pub small : pass_number p < 64

-- each worker has a pass of the lock
abbrev pub AreWorkers : DeskLock → List Worker → Type 0
AreWorkers lock ws = All (λ w. IsWorkersPass lock (pass_number w.pass) w.pass) ws

-- the same workers as before, at their places
abbrev pub AreStill : DeskLock → List Worker → List Worker → Type 0
AreStill lock old new = (k : ℕ) (d : Worker) → k < length old → IsWorkersPass lock (pass_number (slice_index_or old k d).pass) (slice_index_or new k d).pass
