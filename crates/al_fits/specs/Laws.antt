-- Laws on what programs of sound types within the measures need, so that their numbers fit in words.
use Rattle.std.specs.Prelude.{◌≡◌, ℕ, ◌+◌, ◌<◌, ◌≤◌, ◌^◌, List, Some, None, length}
use Rattle.al_event.specs.declared.act.Act.{Act}
use Rattle.al_event.specs.declared.entry.Entry.{Entry}
use Rattle.al_world.specs.World.{Effect, Goes, Shared, TaskName, World}
use Rattle.al_world.specs.Actions.{performs}
use Rattle.al_world.specs.Step.{task_of}
use Rattle.al_typed.specs.declared.program.Program.{Program}
use Rattle.al_typed.specs.Measures.{IsWithin}
use Rattle.al_typed.specs.Sound.{HasSoundTypes, IsShort}
use Rattle.al_meaning.specs.Items.{Control}
use Rattle.al_meaning.specs.Meaning.{ask, run, source}
use Rattle.al_walk.specs.Asks.{AskFits}
use Rattle.al_step.specs.Sources.{EntryFits, StartFits}
use Rattle.al_fits.specs.Controls.{ActIs}

-- In every run that is not over all private steps of a task that goes on fit, up to what it asks.
abbrev pub StepsFit : Type 0
StepsFit =
    (p : Program) (region : ℕ) (h : List Entry) (w : World (source p)) (t : TaskName) (c : Control) → HasSoundTypes p → IsWithin p → region ≤ 2 ^ 28 → run p region h ≡ Some w → w.shared.over ≡ None → w.tasks t ≡ Goes c → AskFits p c (w.privates t.proc)

-- What it asks is an access of 1, 2 or 4 bytes if it is one, takes a block of 1 byte at least if it takes one, and has at most
-- 64 branches if it is a talk.
abbrev pub ActsFit : Type 0
ActsFit =
    (p : Program) (region : ℕ) (h : List Entry) (w : World (source p)) (t : TaskName) (c : Control) → HasSoundTypes p → IsWithin p → region ≤ 2 ^ 28 → run p region h ≡ Some w → w.shared.over ≡ None → w.tasks t ≡ Goes c → ActIs (ask p c (w.privates t.proc)).act

-- so few entries, tasks, procs and channels that an entry of this task brings none of their numbers past 32 bits
pub record HasFew (s : Shared) (t : TaskName) (pick : ℕ) : Type 0 where
  pub entries : s.entries + 1 < 2 ^ 32
  pub own_entries : s.entries_of t.proc + 1 < 2 ^ 32
  pub tasks : s.started t.proc + 1 < 2 ^ 32
  pub procs : length s.procs + 1024 < 2 ^ 32
  pub channels : length s.book.channels + 1 < 2 ^ 32
  pub more_procs : (act : Act) (e : Effect) → performs s t act pick ≡ Some e → length e.shared.procs < 2 ^ 32

-- An entry fits in a world of a run where there are so few of all that is counted; one that is no task's turn needs nothing.
abbrev pub EntriesFit : Type 0
EntriesFit =
    (p : Program) (region : ℕ) (h : List Entry) (w : World (source p)) (e : Entry) → HasSoundTypes p → IsWithin p → region ≤ 2 ^ 28 → run p region h ≡ Some w → ((t : TaskName) → task_of w.shared w.shared.over e.proc ≡ Some t → HasFew w.shared t e.pick) → EntryFits p w e

-- And the first world fits.
abbrev pub StartsFit : Type 0
StartsFit = (p : Program) → HasSoundTypes p → IsWithin p → IsShort p → StartFits p
