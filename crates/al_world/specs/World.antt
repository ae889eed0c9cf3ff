-- The world: what all can see, and the tasks with what is their own.
use Rattle.std.specs.Prelude.{ℕ, Bool, ◌&&◌, ◌==◌, if◌then◌else◌, List, [], ◌∷◌, Option}
use Rattle.al_base.specs.declared.over.Over.{Over}
use Rattle.al_event.specs.declared.act.Start.{Start}
use Rattle.al_event.specs.declared.act.Act.{Act}
use Rattle.al_event.specs.Store.{Live}
use Rattle.al_world.specs.Channels.{Book}
use Rattle.al_world.specs.Talks.{Went}
use Rattle.al_world.specs.Procs.{ProcState}
use Rattle.al_world.specs.Control.{Kind, fitted}

-- a task: its proc, and its number among that proc's tasks, from 0
pub record TaskName : Type 0 where
  pub proc : ℕ
  pub number : ℕ

-- a talk: the task that asked it, and its entry's number among that proc's entries, from 0
pub record TalkName : Type 0 where
  pub task : TaskName
  pub entry : ℕ

abbrev pub same_task : TaskName → TaskName → Bool
same_task t u = (t.proc == u.proc) && (t.number == u.number)

-- two talks of one task
abbrev pub same_talker : TalkName → TalkName → Bool
same_talker a b = same_task a.task b.task

-- all of a world but its tasks' controls and private globals
pub record Shared : Type 0 where
  -- the size of the region, in bytes
  pub region : ℕ
  pub store : List Live
  pub book : Book TalkName
  -- by their numbers, from 0
  pub procs : List (ProcState TaskName)
  -- how many tasks were started in each proc
  pub started : ℕ → ℕ
  -- how many entries each proc made
  pub entries_of : ℕ → ℕ
  -- how many entries there are
  pub entries : ℕ
  pub output : List ℕ
  -- what went through channels, in order
  pub went : List (Went TalkName)
  pub over : Option Over
  -- the line of the action that trapped, else 0
  pub line : ℕ

-- a task that was not started, one that goes on, and one whose control waits for the answer to an action
pub data Held (Control : Type 0) : Type 0 where
  Absent : Held Control
  Goes : Control → Held Control
  Waits : Act → Control → Held Control

pub record World (K : Kind) : Type 0 where
  pub shared : Shared
  pub tasks : TaskName → Held K.Control
  pub privates : ℕ → K.Privates
  -- the instructions done in all entries
  pub work : ℕ

-- what an entry tells a task
pub data Told : Type 0 where
  Answered : (words : List ℕ) → Told
  Begins : (start : Start) → Told

-- what an action leaves of what all can see, and what it tells the tasks, in order
pub record Effect : Type 0 where
  pub shared : Shared
  pub told : List (TaskName × Told)

-- f with another value at one task
abbrev pub at_task : {X : Type 0} → TaskName → X → (TaskName → X) → TaskName → X
at_task t x f u = if same_task u t then x else f u

-- f with another value at one proc
abbrev pub at_proc : {X : Type 0} → ℕ → X → (ℕ → X) → ℕ → X
at_proc p x f q = if q == p then x else f q

-- an answer goes to a control that waits, and a start makes a task that was not there
abbrev pub told_one : (K : Kind) → Told → Held K.Control → Held K.Control
told_one K (Answered words) (Waits act c) = Goes (K.resume c (fitted act words))
told_one K (Begins start) Absent = Goes (K.start start)
told_one K _ h = h

abbrev pub told : (K : Kind) → List (TaskName × Told) → (TaskName → Held K.Control) → TaskName → Held K.Control
told K [] tasks = tasks
told K (m ∷ ms) tasks = told K ms (at_task m.0 (told_one K m.1 (tasks m.0)) tasks)
