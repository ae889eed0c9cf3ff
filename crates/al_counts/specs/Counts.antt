-- How many procs, tasks and channels there are after so many entries, and that these numbers have room in words.
use Rattle.std.specs.Prelude.{ℕ, ◌+◌, ◌≡◌, ◌≤◌, ◌<◌, ◌^◌, List, length, Some}
use Rattle.al_event.specs.declared.act.Act.{Act}
use Rattle.al_event.specs.declared.act.Start.{Start}
use Rattle.al_event.specs.declared.entry.Entry.{Entry}
use Rattle.al_world.specs.Procs.{live_tasks, most_tasks}
use Rattle.al_world.specs.Control.{Kind}
use Rattle.al_world.specs.World.{TaskName, Shared, World, Effect}
use Rattle.al_world.specs.Actions.{performs}
use Rattle.al_world.specs.Step.{run_from}
use Rattle.al_script.specs.Worlds.{Fits, branches_in}

-- The counts of a world after n entries. A par starts many tasks by one entry, but no more than may live at one time, and an
-- entry ends at most one: so all procs that were ever made are few more than the entries.
pub record IsCounted (n : ℕ) (s : Shared) : Type 0 where
  pub entries : s.entries ≡ n
  -- those of each proc are among them
  pub own_entries : (p : ℕ) → s.entries_of p ≤ n
  pub live : live_tasks s.procs ≤ most_tasks
  -- a proc is made with a task that lives, and an entry ends at most one
  pub procs : length s.procs ≤ live_tasks s.procs + n
  -- the first task of a proc comes with it, and each other one by an entry
  pub tasks : (p : ℕ) → s.started p ≤ n + 1
  -- each was made by an entry
  pub channels : length s.book.channels ≤ n

-- in each world that a run comes to
abbrev pub AreCounted : Kind → Type 0
AreCounted K =
    (region : ℕ) (globals : List (List ℕ)) (start : Start) (h : List Entry) (w : World K) → run_from K region globals start h ≡ Some w → IsCounted (length h) w.shared

-- as many entries as a schedule may have
abbrev pub most_entries : ℕ
most_entries = 2 ^ 26

-- The counts of a world have 32 bits, and no action of any task brings one past them: `Fits`, where the branches of the
-- action have as much room themselves.
pub record HasRoom (s : Shared) : Type 0 where
  pub fits : (t : TaskName) (act : Act) → branches_in act < 2 ^ 32 → Fits s t act
  pub procs : length s.procs < 2 ^ 32
  pub procs_after : (t : TaskName) (act : Act) (pick : ℕ) (e : Effect) → performs s t act pick ≡ Some e → length e.shared.procs < 2 ^ 32

-- in each world that a run of at most so many entries comes to
abbrev pub HaveRoom : Kind → Type 0
HaveRoom K =
    (region : ℕ) (globals : List (List ℕ)) (start : Start) (h : List Entry) (w : World K) → length h ≤ most_entries → run_from K region globals start h ≡ Some w → HasRoom w.shared
