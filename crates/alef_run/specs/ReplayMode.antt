-- The mode `replay`: a text is compiled, and its image runs along a schedule.
use Rattle.std.specs.Prelude.{◌≡◌, ℕ, ◌⊎◌, List, length, Some}
use Rattle.al_event.specs.declared.entry.Entry.{Entry}
use Rattle.al_words.specs.declared.job.Job.{Job}
use Rattle.rv_isa.specs.declared.image.Contents.{Contents}
use Rattle.al_compile.specs.Meant.{RunsAlike}
use Rattle.al_typed.specs.declared.program.Program.{Program}
use Rattle.al_front.specs.Accepted.{IsRefused}
use Rattle.al_core.specs.History.{work_of}
use Rattle.alef_texts.specs.Call.{Call, WasRead, DidNothing, HostFails, text_in}
use Rattle.alef_texts.specs.CheckMode.{most_of_text}
use Rattle.alef_texts.specs.Load.{IsBadSchedule}
use Rattle.alef_texts.specs.StepMode.{HasBoth, HasBadSchedule, HasNoSchedule}
use Rattle.alef_run.specs.ExecMode.{comes_to}
use Rattle.alef_run.specs.Along.{WentTo}
use Rattle.alef_run.specs.Rounds.{IsLegal}
use Rattle.alef_texts.specs.declared.report.End.{End}
use Rattle.alef_texts.specs.declared.report.End.TheVariants.{Ran, Made, Words, ReadFault, Refused, BadImage, BadSchedule, BadEntry, BadNumber, WriteFault, NoMemory}

-- a job with the limits of a schedule: as many entries as it has, by any worker that a schedule can name
abbrev pub along : List Entry → Job → Job
along h job = record job { entries = length h; workers = 64 }

-- This image ran along the schedule h, as far as the schedule of the call says; `work` counts the code words that were fetched on the way.
pub record DidGoAlong (job : Job) (image : Contents) (h : List Entry) (call : Call) (end : End) : Type 0 where
  pub image_is : call.image ≡ Some image
  pub legal : IsLegal 64 (comes_to image (along h job) call)
  pub work : call.work ≡ work_of (comes_to image (along h job) call)
  pub went : WentTo (comes_to image (along h job) call) h end call.got_before call.got_after call.out_before call.out_after

-- why the run of an image along a schedule ends as it does: there was no memory for its first world, or it ran
abbrev pub EndsAlong : Job → Contents → List Entry → Call → End → Type 0
EndsAlong job image h call end = ((end ≡ NoMemory) × DidNothing call) ⊎ DidGoAlong job image h call end

-- The text is accepted, within the limits, with this program, which runs like that image. The schedule has these entries, along which
-- the image ran.
pub record DidReplay (job : Job) (p : Program) (image : Contents) (h : List Entry) (call : Call) (end : End) : Type 0 where
  pub read : HasBoth job p h call
  pub alike : RunsAlike p image
  pub run : DidGoAlong job image h call end

-- the image of some program ran along some schedule
abbrev pub Replayed : Job → Call → End → Type 0
Replayed job call end = (p : Program) × (image : Contents) × (h : List Entry) × DidReplay job p image h call end

-- Why `replay FILE SCHEDULE` ends as it does, and what it did: the text is looked at first, then the schedule, then the entries one after
-- the other.
abbrev pub EndsReplay : Job → Call → End → Type 0
EndsReplay job call (Ran over) = Replayed job call (Ran over)
EndsReplay job call (BadEntry k) = Replayed job call (BadEntry k)
EndsReplay job call WriteFault = Replayed job call WriteFault
EndsReplay job call NoMemory = (call.host_after ≡ call.host_before) × (DidNothing call ⊎ Replayed job call NoMemory)
EndsReplay job call (BadSchedule fault) =
    HasBadSchedule job call × ((text : List ℕ) → text_in call.told job.schedule ≡ Some text → IsBadSchedule fault text)
    × (call.host_after ≡ call.host_before) × DidNothing call
EndsReplay job call (Refused reason) =
    WasRead job.file most_of_text call × ((text : List ℕ) → text_in call.told job.file ≡ Some text → IsRefused text reason) × DidNothing call
EndsReplay job call ReadFault =
    (HostFails job.file call.told call.host_before call.host_after ⊎ HasNoSchedule job call) × DidNothing call
EndsReplay job call Made = ⊥
EndsReplay job call Words = ⊥
EndsReplay job call (BadImage fault) = ⊥
EndsReplay job call (BadNumber count) = ⊥
