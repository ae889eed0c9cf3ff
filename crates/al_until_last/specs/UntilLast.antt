-- Two kinds of control whose tasks ask the same, where nothing is said of how they go on behind their last action.
use Rattle.std.specs.Prelude.{ℕ, ◌≡◌, Bool, true, false, List, Some, None}
use Rattle.std.specs.List.{AllByRecursion}
use Rattle.al_event.specs.declared.act.Act.{Act}
use Rattle.al_event.specs.declared.act.Act.TheVariants.{Trap, End, Terminate}
use Rattle.al_event.specs.declared.act.Start.{Start}
use Rattle.al_event.specs.declared.entry.Entry.{Entry}
use Rattle.al_world.specs.Procs.{first_ready}
use Rattle.al_world.specs.Control.{Kind, fitted}
use Rattle.al_world.specs.World.{TaskName, Held, Goes, Waits, World, Told, Answered, Begins, Effect, at_task}
use Rattle.al_world.specs.Actions.{performs}
use Rattle.al_world.specs.Step.{run_from}
use Rattle.al_world.specs.Alike.{Relation, AsksAlike}

-- actions that have no answer
abbrev pub is_last : Act → Bool
is_last (Trap trap) = true
is_last End = true
is_last (Terminate status) = true
is_last _ = false

-- tasks that correspond ask alike, and go on alike with each answer to an action that has one
pub record AlikeUntilLast (K L : Kind) (R : Relation K.Control L.Control K.Privates L.Privates) : Type 0 where
  pub asks : (c : K.Control) (d : L.Control) (u : K.Privates) (v : L.Privates) → R.Going c d → R.Private u v → AsksAlike R (K.ask c u) (L.ask d v)
  pub resumes : (act : Act) (c : K.Control) (d : L.Control) (words : List ℕ) → is_last act ≡ false → R.Waiting act c d → R.Going (K.resume c (fitted act words)) (L.resume d (fitted act words))
  pub starts : (start : Start) → R.IsStart start → R.Going (K.start start) (L.start start)
  pub fresh : R.Private K.fresh L.fresh

-- a task that is told an answer waits for an action that has one
abbrev pub IsAnswerable : {C : Type 0} → (TaskName → Held C) → TaskName × Told → Type 0
IsAnswerable {C} tasks m = elim m.1 [
  | Answered words ↦ (act : Act) (control : C) → tasks m.0 ≡ Waits act control → is_last act ≡ false
  | Begins start ↦ Unit {0}
]

-- in each world that a run comes to and that is not over, whatever its next entry tells
abbrev pub HaveNoAnswer : Kind → Type 0
HaveNoAnswer K =
    (region : ℕ) (globals : List (List ℕ)) (start : Start) (h : List Entry) (w : World K) (t : TaskName) (c : K.Control) (pick : ℕ) (e : Effect) → run_from K region globals start h ≡ Some w → w.shared.over ≡ None → first_ready w.shared.procs t.proc ≡ Some t → w.tasks t ≡ Goes c → let a = K.ask c (w.privates t.proc) in performs w.shared t a.act pick ≡ Some e → AllByRecursion (IsAnswerable (at_task t (Waits a.act a.control) w.tasks)) e.told
