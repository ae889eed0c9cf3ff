-- Procs and their ready lists. `Task` is what a task is called by: the world uses its proc and its number there, a table
-- of tasks may use a slot.
use Rattle.std.specs.Prelude.{ℕ, ◌+◌, ◌-◌, Bool, true, false, ◌==◌, nat_lt, if◌then◌else◌, List, [], ◌∷◌, ◌++◌, length, drop, slice_get, sum_by, Option, Some, None, option_and_then}
use Rattle.std.specs.List.{list_any}
use Rattle.al_world.specs.Channels.{changed_at}

-- a proc: its ready tasks with the one that goes next first, how many of its tasks live, and the task that waits for it
-- in a par
pub record ProcState (Task : Type 0) : Type 0 where
  pub ready : List Task
  pub live : ℕ
  pub parent : Option Task

-- after a task ended: the procs, whether its proc ended with it, and the task that became ready by it
pub record Ended (Task : Type 0) : Type 0 where
  pub procs : List (ProcState Task)
  pub proc_ended : Bool
  pub woke : Option Task

-- the most tasks that live at one time
abbrev pub most_tasks : ℕ
most_tasks = 1024

module _ {Task : Type 0} where
  abbrev pub first_of : List Task → Option Task
  first_of [] = None
  first_of (t ∷ _) = Some t

  -- the first ready task of a proc
  abbrev pub first_ready : List (ProcState Task) → ℕ → Option Task
  first_ready procs p = option_and_then (λ (q : ProcState Task). first_of q.ready) (slice_get procs p)

  abbrev pub has_ready : ProcState Task → Bool
  has_ready q = nat_lt 0 (length q.ready)

  -- a proc with one task, which is ready
  abbrev pub new_proc : Option Task → Task → ProcState Task
  new_proc parent first = record { ready = first ∷ []; live = 1; parent = parent }

  -- a task joins the end of proc p's ready list
  abbrev pub joins_ready : ℕ → Task → List (ProcState Task) → List (ProcState Task)
  joins_ready p t procs = changed_at p (λ q. record q { ready = q.ready ++ t ∷ [] }) procs

  -- the first task of proc p leaves its ready list
  abbrev pub leaves_ready : ℕ → List (ProcState Task) → List (ProcState Task)
  leaves_ready p procs = changed_at p (λ q. record q { ready = drop 1 q.ready }) procs

  -- one more task in proc p, at the end of its ready list
  abbrev pub starts_in_proc : ℕ → Task → List (ProcState Task) → List (ProcState Task)
  starts_in_proc p t procs = changed_at p (λ q. record q { ready = q.ready ++ t ∷ []; live = q.live + 1 }) procs

  abbrev pub live_tasks : List (ProcState Task) → ℕ
  live_tasks procs = sum_by (λ (q : ProcState Task). q.live) procs

  -- there is no room for so many more tasks
  abbrev pub is_full : List (ProcState Task) → ℕ → Bool
  is_full procs more = nat_lt most_tasks (live_tasks procs + more)

  -- the first task of proc p is no more
  abbrev pub loses_first : ℕ → List (ProcState Task) → List (ProcState Task)
  loses_first p procs = changed_at p (λ q. record q { ready = drop 1 q.ready; live = q.live - 1 }) procs

  -- no task waits for proc p any more
  abbrev pub without_parent : ℕ → List (ProcState Task) → List (ProcState Task)
  without_parent p procs = changed_at p (λ q. record q { parent = None }) procs

  -- `same` says whether two names are of one task, and `home` in which proc a task is
  module _ (same : Task → Task → Bool) (home : Task → ℕ) where
    abbrev pub is_parent : Task → Option Task → Bool
    is_parent t None = false
    is_parent t (Some u) = same u t

    -- a proc that t waits for in a par has not ended
    abbrev pub has_branches : Task → List (ProcState Task) → Bool
    has_branches t procs = list_any (λ (q : ProcState Task). is_parent t q.parent) procs

    -- a proc ended: the task that waited for it becomes ready, unless it waits for another
    abbrev pub joins : List (ProcState Task) → Option Task → Ended Task
    joins procs None = record { procs = procs; proc_ended = true; woke = None }
    joins procs (Some u) =
        if has_branches u procs
        then record { procs = procs; proc_ended = true; woke = None }
        else record { procs = joins_ready (home u) u procs; proc_ended = true; woke = Some u }

    -- by how many tasks of proc p live
    abbrev pub ends_proc : List (ProcState Task) → ℕ → Option (ProcState Task) → Ended Task
    ends_proc procs p None = record { procs = procs; proc_ended = false; woke = None }
    ends_proc procs p (Some q) =
        if q.live == 0
        then joins (without_parent p procs) q.parent
        else record { procs = procs; proc_ended = false; woke = None }

    -- the first task of proc p ends: the last one ends the proc, and the last proc that a task waits for makes it ready
    abbrev pub ends : List (ProcState Task) → ℕ → Ended Task
    ends procs p = ends_proc (loses_first p procs) p (slice_get (loses_first p procs) p)
