-- What goes out of a table and comes home.
use Rattle.std.specs.Prelude.{◌≡◌, ℕ, List, slice_set, slice_index_or, Option, Some, None, option_map, option_and_then}
use Rattle.al_world.specs.Channels.{changed_at}
use Rattle.al_world.specs.Procs.{first_ready}
use Rattle.rv_exec.specs.declared.run.Hart.{Hart}
use Rattle.rv_exec.specs.declared.run.Privates.{Privates}
use Rattle.rv_exec.specs.declared.run.Held.{Held}
use Rattle.rv_exec.specs.Shown.{hart_of as machine_of}
use Rattle.rv_exec.specs.Machine.{resumed}
use Rattle.task_book.specs.declared.proc.Task.{Task}
use Rattle.task_book.specs.Table.{Table, TaskState, at, hart_of}

-- the hart of the first ready task of a proc, with the proc's private globals
abbrev pub lent : Table → ℕ → Option Held
lent s p =
    option_and_then (λ t. option_and_then (λ (h : Hart). option_map (λ (v : Privates). record { proc = p; hart = h; privates = v }) (at s.privates p)) (hart_of s t)) (first_ready s.procs p)

-- a task with another hart, or without one
abbrev pub re_harted : Option Hart → Option TaskState → Option TaskState
re_harted h o = option_map (λ (x : TaskState). record x { hart = h }) o

-- a task, if there is one, with another hart, or without one
abbrev pub one_with : Option ℕ → Option Hart → List (Option TaskState) → List (Option TaskState)
one_with None h tasks = tasks
one_with (Some t) h tasks = changed_at t (re_harted h) tasks

-- the first ready task of a proc with another hart, or without one
abbrev pub first_with : Table → ℕ → Option Hart → List (Option TaskState)
first_with s p h = one_with (first_ready s.procs p) h s.tasks

-- a table of which these are lent
abbrev pub without : ℕ → Table → Table
without p s = record s { tasks = first_with s p None; privates = slice_set s.privates p None }

-- a table to which these have come home
abbrev pub with_held : Held → Table → Table
with_held held s = record s { tasks = first_with s held.proc (Some held.hart); privates = slice_set s.privates held.proc (Some held.privates) }

-- one task went on with an answer, and all else stays
pub record TakesAnswer (s : Table) (t : ℕ) (words : List ℕ) (after : Table) : Type 0 where
  pub hart : Hart
  pub resumed : option_map (λ (h : Hart). resumed (machine_of h) words) (hart_of s t) ≡ Some (machine_of hart)
  pub table : after ≡ record s { tasks = changed_at t (re_harted (Some hart)) s.tasks }

-- ---- as it is kept

abbrev pub hart_in : List (Option Task) → ℕ → Option Hart
hart_in tasks t = option_and_then (λ (x : Task). x.hart) (slice_index_or tasks t None)

abbrev pub with_hart : ℕ → Option Hart → List (Option Task) → List (Option Task)
with_hart t h tasks = changed_at t (λ o. option_map (λ (x : Task). record x { hart = h }) o) tasks
