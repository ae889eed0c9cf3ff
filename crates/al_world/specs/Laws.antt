-- Laws of each entry and of each run.
use Rattle.std.specs.Prelude.{ℕ, ◌≡◌, ◌≢◌, List, Some, None, map, take, drop}
use Rattle.std.specs.List.{AllByRecursion}
use Rattle.al_event.specs.declared.act.Start.{Start}
use Rattle.al_event.specs.declared.entry.Entry.{Entry}
use Rattle.al_world.specs.Procs.{first_ready}
use Rattle.al_world.specs.Control.{Kind}
use Rattle.al_world.specs.World.{TaskName, World, Held, Goes}
use Rattle.al_world.specs.Step.{step, run, run_from}

-- a schedule has at most one run
abbrev pub IsDetermined : Kind → Type 0
IsDetermined K = (w u v : World K) (h : List Entry) → run K h (Some w) ≡ Some u → run K h (Some w) ≡ Some v → u ≡ v

-- an entry as another worker makes it
abbrev pub by_worker : ℕ → Entry → Entry
by_worker worker e = record e { worker = worker }

-- which worker made an entry has no part in what it does
abbrev pub IsBlindToWorkers : Kind → Type 0
IsBlindToWorkers K = (w : World K) (h : List Entry) (worker : ℕ) → run K (map (by_worker worker) h) (Some w) ≡ run K h (Some w)

-- the first ready task of proc p stays the first, with its control and the proc's private globals
pub record IsKept (K : Kind) (w v : World K) (p : ℕ) (t : TaskName) : Type 0 where
  pub first : first_ready v.shared.procs p ≡ Some t
  pub control : v.tasks t ≡ w.tasks t
  pub privates : v.privates p ≡ w.privates p

-- in each world that a run comes to, an entry of one proc keeps the first ready task of each other proc
abbrev pub IsLocalEverywhere : Kind → Type 0
IsLocalEverywhere K =
    (region : ℕ) (globals : List (List ℕ)) (start : Start) (h : List Entry) (w v : World K) (e : Entry) (p : ℕ) (t : TaskName) → run_from K region globals start h ≡ Some w → step K w e ≡ Some v → p ≢ e.proc → first_ready w.shared.procs p ≡ Some t → IsKept K w v p t

-- and so do all entries of other procs that follow
abbrev pub IsLocalAlong : Kind → Type 0
IsLocalAlong K =
    (region : ℕ) (globals : List (List ℕ)) (start : Start) (h more : List Entry) (w v : World K) (p : ℕ) (t : TaskName) → run_from K region globals start h ≡ Some w → run K more (Some w) ≡ Some v → AllByRecursion (λ (e : Entry). p ≢ e.proc) more → first_ready w.shared.procs p ≡ Some t → IsKept K w v p t

-- a task that goes on from some control
pub record IsGoing {C : Type 0} (h : Held C) : Type 0 where
  pub control : C
  pub is : h ≡ Goes control

-- in each world that a run comes to and that is not over, the first ready task of each proc is one of that proc and goes
-- on, so that an entry of it is permitted where its pick is in range
abbrev pub IsReadyToGo : Kind → Type 0
IsReadyToGo K =
    (region : ℕ) (globals : List (List ℕ)) (start : Start) (h : List Entry) (w : World K) (p : ℕ) (t : TaskName) → run_from K region globals start h ≡ Some w → w.shared.over ≡ None → first_ready w.shared.procs p ≡ Some t → (t.proc ≡ p) × IsGoing (w.tasks t)

-- what was lent of proc p after the first s entries of a schedule, none of the later ones being of p, is still so along all
abbrev pub IsStillLent : Kind → Type 0
IsStillLent K =
    (region : ℕ) (globals : List (List ℕ)) (start : Start) (h : List Entry) (s : ℕ) (w v : World K) (p : ℕ) (t : TaskName) → run_from K region globals start (take s h) ≡ Some w → run_from K region globals start h ≡ Some v → AllByRecursion (λ (e : Entry). p ≢ e.proc) (drop s h) → first_ready w.shared.procs p ≡ Some t → IsKept K w v p t
