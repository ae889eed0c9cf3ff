-- The workers of a round.
use Rattle.std.specs.Prelude.{◌≡◌, ℕ, ◌<◌, List, length, slice_index_or, None}
use Rattle.std.specs.List.{All}
use Rattle.store_lock.specs.declared.pass.Pass.{Pass}
use Rattle.store_lock.specs.Passes.{pass_number, loan}
use Rattle.al_workers.specs.declared.crew.Worker.{Worker}
use Rattle.al_workers.specs.Working.{WorldLock, IsWorkersPass}

abbrev pub hired : Pass → Worker
hired p = record { pass = p; made = 0; lack = None }

abbrev pub pass_of : Worker → Pass
pass_of w = w.pass

-- a worker that holds nothing and lacked no memory
pub record IsReady (lock : WorldLock) (w : Worker) : Type 0 where
  pub pass : IsWorkersPass lock (pass_number w.pass) w.pass
  pub idle : loan w.pass ≡ None
  pub lack : w.lack ≡ None

abbrev pub AreReady : WorldLock → List Worker → Type 0
AreReady lock ws = All (IsReady lock) ws

-- the same worker after its part of a round; it holds nothing, unless it lacked memory
pub record Works (lock : WorldLock) (w w' : Worker) : Type 0 where
  pub pass : IsWorkersPass lock (pass_number w.pass) w'.pass
  pub idle : w'.lack ≡ None → loan w'.pass ≡ None

-- the worker at each place did its part
abbrev pub HaveWorked : WorldLock → List Worker → List Worker → Type 0
HaveWorked lock old new = (k : ℕ) (d : Worker) → k < length old → Works lock (slice_index_or old k d) (slice_index_or new k d)
