-- Which entries are permitted.
use Rattle.std.specs.Prelude.{ℕ, ◌≡◌, ◌≢◌, ◌<◌, ◌++◌, ◌↔◌, if◌then◌else◌, List, length, Option, Some, None, IsSome}
use Rattle.al_base.specs.declared.over.Over.TheVariants.{Spent}
use Rattle.al_event.specs.declared.act.Start.{Start}
use Rattle.al_event.specs.declared.act.Act.{Act}
use Rattle.al_event.specs.declared.act.Act.TheVariants.{Talk}
use Rattle.al_event.specs.declared.entry.Entry.{Entry}
use Rattle.al_world.specs.Channels.{has_bad, ready, is_some_ready}
use Rattle.al_world.specs.Procs.{first_ready}
use Rattle.al_world.specs.Control.{Kind}
use Rattle.al_world.specs.World.{TaskName, Shared, World, Goes}
use Rattle.al_world.specs.Actions.{performs}
use Rattle.al_world.specs.Step.{step, run, run_from}

-- how many picks an action has: as many as there are pairs where it is a talk that neither traps nor blocks, and else one
abbrev pub picks : Shared → Act → ℕ
picks s (Talk branches) =
    if has_bad s.book branches then 1
    else (if is_some_ready (ready s.book branches) then length (ready s.book branches) else 1)
picks s act = 1

-- an action is done exactly where its pick is in range
abbrev pub IsDoneInRange : Type 0
IsDoneInRange = (s : Shared) (t : TaskName) (act : Act) (pick : ℕ) → IsSome (performs s t act pick) ↔ (pick < picks s act)

-- an entry is permitted: the world is not over, the proc has a ready task, and the pick is in the range of its next action
pub record IsPermitted (K : Kind) (w : World K) (e : Entry) : Type 0 where
  pub not_over : w.shared.over ≡ None
  pub task : TaskName
  pub first : first_ready w.shared.procs e.proc ≡ Some task
  pub control : K.Control
  pub goes : w.tasks task ≡ Goes control
  pub in_range : e.pick < picks w.shared (K.ask control (w.privates task.proc)).act

-- there is a world after an entry exactly where the entry is permitted
abbrev pub StepsWherePermitted : Kind → Type 0
StepsWherePermitted K = (w : World K) (e : Entry) → IsSome (step K w e) ↔ IsPermitted K w e

-- a run along one schedule after another is the run along the second from where the first came to
abbrev pub RunsGoOn : Kind → Type 0
RunsGoOn K =
    (h more : List Entry) (o : Option (World K)) → run K (h ++ more) o ≡ run K more (run K h o)

-- no world is over by having spent its entries
abbrev pub IsNeverSpent : Kind → Type 0
IsNeverSpent K =
    (region : ℕ) (globals : List (List ℕ)) (start : Start) (h : List Entry) (w : World K) → run_from K region globals start h ≡ Some w → w.shared.over ≢ Some Spent

-- where there is a run along a schedule and more, there is one along the schedule, from which the rest goes on
pub record GoesThrough (K : Kind) (h more : List Entry) (w v : World K) : Type 0 where
  pub between : World K
  pub before : run K h (Some w) ≡ Some between
  pub rest : run K more (Some between) ≡ Some v

abbrev pub RunsGoThrough : Kind → Type 0
RunsGoThrough K = (h more : List Entry) (w v : World K) → run K (h ++ more) (Some w) ≡ Some v → GoesThrough K h more w v
