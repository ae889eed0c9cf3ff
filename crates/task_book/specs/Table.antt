-- A table of tasks as its callers see it. A task is called by its slot.
use Rattle.std.specs.Prelude.{◌≡◌, ℕ, Bool, true, false, ◌&&◌, nat_lt, List, [], slice_get, Option, option_and_then, is_some, IsSome, is_none}
use Rattle.std.specs.Option.{option_map_or}
use Rattle.al_world.specs.Procs.{ProcState, first_ready}
use Rattle.rv_exec.specs.declared.run.Hart.{Hart}
use Rattle.rv_exec.specs.declared.run.Privates.{Privates}
use Rattle.task_book.specs.Queues.{has}

-- a task that lives: its proc, and its hart unless that is lent
pub record TaskState : Type 0 where
  pub home : ℕ
  pub hart : Option Hart

-- all procs ever made, by their numbers; those that have ended have no task. The tasks, by their slots. The private globals
-- of the procs, by their numbers, unless they are lent
pub record Table : Type 0 where
  pub procs : List (ProcState ℕ)
  pub tasks : List (Option TaskState)
  pub privates : List (Option Privates)

-- an element that is there
abbrev pub at : {X : Type 0} → List (Option X) → ℕ → Option X
at xs i = option_and_then (λ o. o) (slice_get xs i)

abbrev pub lives : Table → ℕ → Bool
lives s t = is_some (at s.tasks t)

-- the proc of a task
abbrev pub home_of : Table → ℕ → ℕ
home_of s t = option_map_or (λ (x : TaskState). x.home) (at s.tasks t) 0

abbrev pub hart_of : Table → ℕ → Option Hart
hart_of s t = option_and_then (λ (x : TaskState). x.hart) (at s.tasks t)

abbrev pub ready_of : Table → ℕ → List ℕ
ready_of s p = option_map_or (λ (q : ProcState ℕ). q.ready) (slice_get s.procs p) []

abbrev pub live_of : Table → ℕ → ℕ
live_of s p = option_map_or (λ (q : ProcState ℕ). q.live) (slice_get s.procs p) 0

abbrev pub parent_of : Table → ℕ → Option ℕ
parent_of s p = option_and_then (λ (q : ProcState ℕ). q.parent) (slice_get s.procs p)

-- a proc that lives, and whose first ready task and private globals are lent
abbrev pub is_away : Table → ℕ → Bool
is_away s p = nat_lt 0 (live_of s p) && is_none (at s.privates p)

-- the proc is not away and has a ready task
abbrev pub can_run : Table → ℕ → Bool
can_run s p = is_some (first_ready s.procs p) && is_some (at s.privates p)

-- a task that lives in a proc. Its hart is here unless the proc is away
pub record LivesIn (s : Table) (p t : ℕ) : Type 0 where
  pub lives : lives s t ≡ true
  pub home : home_of s t ≡ p
  pub hart : is_away s p ≡ false → IsSome (hart_of s t)

-- a task that is not in the ready list of its proc
pub record IsBlocked (s : Table) (t : ℕ) : Type 0 where
  pub lives : lives s t ≡ true
  pub out : has t (ready_of s (home_of s t)) ≡ false
