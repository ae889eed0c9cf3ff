-- What a run comes to as the text means it.
use Rattle.std.specs.Prelude.{◌≡◌, ℕ, ◌⊎◌, ◌<◌, ◌≤◌, List, length, All, Option, Some, None, option_map}
use Rattle.al_base.specs.declared.over.Over.{Over}
use Rattle.al_base.specs.declared.over.Over.TheVariants.{Spent}
use Rattle.al_event.specs.declared.entry.Entry.{Entry}
use Rattle.al_host.specs.Outside.{WhereTold}
use Rattle.al_words.specs.declared.job.Job.{Job}
use Rattle.al_world.specs.World.{Shared, World}
use Rattle.al_typed.specs.declared.program.Program.{Program}
use Rattle.al_meaning.specs.Meaning.{source, run}
use Rattle.alef_texts.specs.Call.{Call, DidNothing}
use Rattle.alef_run.specs.Modes.{line_by}
use Rattle.alef_texts.specs.Outside.{GetsAll, GetsPart}
use Rattle.alef_texts.specs.StepMode.{bytes_of_region}
use Rattle.alef_texts.specs.declared.report.End.{End}
use Rattle.alef_texts.specs.declared.report.End.TheVariants.{Ran, Made, Words, ReadFault, Refused, BadImage, BadSchedule, BadEntry, BadNumber, WriteFault, NoMemory}

-- what all can see of the world of a program's meaning after the entries of a schedule, in a region of so many bytes
abbrev pub seen_along : Program → (region : ℕ) → List Entry → Option Shared
seen_along p region h = option_map (λ (w : World (source p)). w.shared) (run p region h)

-- The meaning of a program permits the schedule of a call, and leads to a world of which this can be seen. The schedule is within the limit
-- of the job, and was made by so many workers, numbered from 0 on. A line that the log names is that of the entry that trapped.
pub record IsRunTo (p : Program) (job : Job) (call : Call) (s : Shared) : Type 0 where
  pub runs : seen_along p (bytes_of_region job) call.schedule ≡ Some s
  pub most : length call.schedule ≤ job.entries
  pub made_by : All (λ (e : Entry). e.worker < job.workers) call.schedule
  pub line : line_by (Some job) call.image call ≡ s.line

-- the world is over like that; or there are as many entries as there may be, and it is not over
abbrev pub IsOverAs : Shared → (made limit : ℕ) → Over → Type 0
IsOverAs s made limit over = (s.over ≡ Some over) ⊎ ((over ≡ Spent) × (s.over ≡ None) × (made ≡ limit))

-- the output was written as far as that
abbrev pub WroteAsMeant : Program → Job → (List ℕ → List ℕ → List ℕ → Type 0) → Call → Type 0
WroteAsMeant p job Gets call = (s : Shared) × IsRunTo p job call s × WhereTold (Gets s.output) call.got_before call.got_after

-- How `run` ends where it runs this program: just the output was written that the program's meaning gives along the schedule, and the call
-- ends as it ends there. After want of memory or a fault of the output, a first part of it was written.
abbrev pub EndsAsMeant : Program → Job → Call → End → Type 0
EndsAsMeant p job call (Ran over) =
    (s : Shared) × IsRunTo p job call s × IsOverAs s (length call.schedule) job.entries over × WhereTold (GetsAll s.output) call.got_before call.got_after
EndsAsMeant p job call WriteFault = WroteAsMeant p job GetsPart call
EndsAsMeant p job call NoMemory = DidNothing call ⊎ WroteAsMeant p job GetsPart call
EndsAsMeant p job call ReadFault = DidNothing call
EndsAsMeant p job call Made = ⊥
EndsAsMeant p job call Words = ⊥
EndsAsMeant p job call (Refused reason) = ⊥
EndsAsMeant p job call (BadImage fault) = ⊥
EndsAsMeant p job call (BadSchedule bad) = ⊥
EndsAsMeant p job call (BadEntry number) = ⊥
EndsAsMeant p job call (BadNumber count) = ⊥
