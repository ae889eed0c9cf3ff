-- What holds of each table.
use Rattle.std.specs.Prelude.{◌≡◌, ℕ, ◌<◌, ◌^◌, true, length, Some, None, IsSome}
use Rattle.al_world.specs.Procs.{first_ready}
use Rattle.task_book.specs.Queues.{has, are_different}
use Rattle.task_book.specs.Table.{Table, LivesIn, at, lives, home_of, hart_of, ready_of, live_of, parent_of, is_away}

pub record IsSound (s : Table) : Type 0 where
  -- slots are below 2^32
  pub small : length s.tasks < 2 ^ 32
  -- each proc has its place for private globals
  pub places : length s.privates ≡ length s.procs
  -- a proc's ready tasks live in it, and none is ready twice
  pub ready : (p t : ℕ) → has t (ready_of s p) ≡ true → LivesIn s p t
  pub different : (p : ℕ) → are_different (ready_of s p) ≡ true
  -- a task that lives is in a proc that does
  pub homes : (t : ℕ) → lives s t ≡ true → 0 < live_of s (home_of s t)
  -- the hart of a task is missing only where its proc is away with it, the first of its ready tasks
  pub harts : (t : ℕ) → lives s t ≡ true → hart_of s t ≡ None → is_away s (home_of s t) ≡ true
  pub lent : (t : ℕ) → lives s t ≡ true → hart_of s t ≡ None → first_ready s.procs (home_of s t) ≡ Some t
  -- a proc that is away has a ready task
  pub away : (p : ℕ) → is_away s p ≡ true → IsSome (first_ready s.procs p)
  -- private globals are those of a proc that lives
  pub owned : (p : ℕ) → IsSome (at s.privates p) → 0 < live_of s p
  -- a parent lives
  pub parents : (p u : ℕ) → parent_of s p ≡ Some u → lives s u ≡ true
