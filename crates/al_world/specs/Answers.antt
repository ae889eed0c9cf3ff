-- Each answer that a world gives is one that its action can have.
use Rattle.std.specs.Prelude.{ℕ, ◌≡◌, ◌<◌, ◌≤◌, ◌^◌, ◌+◌, List, length, Option, Some, None}
use Rattle.std.specs.List.{AllByRecursion}
use Rattle.al_event.specs.declared.act.Branch.{Branch}
use Rattle.al_event.specs.declared.act.Start.{Start}
use Rattle.al_event.specs.declared.act.Act.{Act}
use Rattle.al_event.specs.declared.act.Act.TheVariants.{Talk}
use Rattle.al_event.specs.declared.entry.Entry.{Entry}
use Rattle.al_world.specs.Procs.{first_ready}
use Rattle.al_world.specs.Control.{Asked, Kind, fitted}
use Rattle.al_world.specs.World.{TaskName, Held, Goes, Waits, World, Told, Answered, Begins, Effect, at_task}
use Rattle.al_world.specs.Actions.{performs}
use Rattle.al_world.specs.Step.{run_from}
use Rattle.al_world.specs.Alike.{starts_in}

-- so many words of 32 bits
pub record AreWords (n : ℕ) (words : List ℕ) : Type 0 where
  pub count : length words ≡ n
  pub each : AllByRecursion (λ w. w < 2 ^ 32) words

-- a send has as many words as its branch says
abbrev pub SendsWords : ℕ → Option (List ℕ) → Type 0
SendsWords n None = Unit {0}
SendsWords n (Some words) = AreWords n words

-- each send of a talk does
abbrev pub IsProper : Act → Type 0
IsProper (Talk branches) = AllByRecursion (λ (b : Branch). SendsWords b.words b.send) branches
IsProper _ = Unit {0}

-- the controls and private globals that there are in a run of a kind, as where each number has 32 bits
pub record Propriety (C U : Type 0) : Type 1 where
  pub Going : C → Type 0
  pub Waiting : Act → C → Type 0
  pub Private : U → Type 0
  pub IsStart : Start → Type 0

-- what a task asks: properly, with a control and private globals that there are, and functions that may be started
pub record AsksProperly {C U : Type 0} (P : Propriety C U) (a : Asked C U) : Type 0 where
  pub act : IsProper a.act
  pub control : P.Waiting a.act a.control
  pub privates : P.Private a.privates
  pub starts : AllByRecursion P.IsStart (starts_in a.act)

-- all tasks of this kind ask so, and go on so with each answer that fits
pub record StaysProper (K : Kind) (P : Propriety K.Control K.Privates) : Type 0 where
  pub asks : (c : K.Control) (u : K.Privates) → P.Going c → P.Private u → AsksProperly P (K.ask c u)
  pub resumes : (act : Act) (c : K.Control) (words : List ℕ) → P.Waiting act c → P.Going (K.resume c (fitted act words))
  pub starts : (start : Start) → P.IsStart start → P.Going (K.start start)
  pub fresh : P.Private K.fresh

-- what a task is told is an answer to the action that it waits for: cut to its units it is the same
abbrev pub IsFit : {C : Type 0} → (TaskName → Held C) → TaskName × Told → Type 0
IsFit {C} tasks m = elim m.1 [
  | Answered words ↦ (act : Act) (control : C) → tasks m.0 ≡ Waits act control → fitted act words ≡ words
  | Begins start ↦ Unit {0}
]

abbrev pub AreBytes : List ℕ → Type 0
AreBytes bytes = AllByRecursion (λ b. b < 256) bytes

-- in a region of at most 256 MiB over globals of bytes, along a schedule with fewer entries than there are channel
-- numbers, each answer fits
abbrev pub AnswersFit : (K : Kind) → Propriety K.Control K.Privates → Type 0
AnswersFit K P =
    StaysProper K P → (region : ℕ) (globals : List (List ℕ)) (start : Start) (h : List Entry) (w : World K) (t : TaskName) (c : K.Control) (pick : ℕ) (e : Effect) → P.IsStart start → region ≤ 0x10000000 → AllByRecursion AreBytes globals → w.shared.entries + 1 < 2 ^ 32 → run_from K region globals start h ≡ Some w → w.shared.over ≡ None → first_ready w.shared.procs t.proc ≡ Some t → w.tasks t ≡ Goes c → let a = K.ask c (w.privates t.proc) in performs w.shared t a.act pick ≡ Some e → AllByRecursion (IsFit (at_task t (Waits a.act a.control) w.tasks)) e.told
