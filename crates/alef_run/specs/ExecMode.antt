-- The mode `exec`: an image runs.
use Rattle.std.specs.Prelude.{◌≡◌, ℕ, ◌⊎◌, List, Some, Err}
use Rattle.al_words.specs.declared.job.Job.{Job}
use Rattle.rv_isa.specs.declared.image.Contents.{Contents}
use Rattle.rv_image.specs.Spelling.{IsImage}
use Rattle.rv_image.specs.Reading.{reading}
use Rattle.rv_image.specs.Front.{enough_of}
use Rattle.al_core.specs.History.{History, work_of}
use Rattle.alef_texts.specs.Call.{Call, WasRead, DidNothing, HostFails, text_in}
use Rattle.alef_run.specs.Rounds.{history_along, IsLegal, RanTo}
use Rattle.alef_texts.specs.declared.report.End.{End}
use Rattle.alef_texts.specs.declared.report.End.TheVariants.{Ran, Made, Words, ReadFault, Refused, BadImage, BadSchedule, BadEntry, BadNumber, WriteFault, NoMemory}

-- what an image comes to along the schedule of a call
abbrev pub comes_to : Contents → Job → Call → History
comes_to image job call = history_along image job.region job.entries call.schedule

-- This image ran along the schedule; `work` counts the code words that were fetched on the way.
pub record DidRunImage (job : Job) (image : Contents) (call : Call) (end : End) : Type 0 where
  pub image_is : call.image ≡ Some image
  pub legal : IsLegal job.workers (comes_to image job call)
  pub work : call.work ≡ work_of (comes_to image job call)
  pub ran : RanTo (comes_to image job call) end call.got_before call.got_after call.out_before call.out_after

-- why the run of an image ends as it does: there was no memory for its first world, or it ran
abbrev pub EndsImage : Job → Contents → Call → End → Type 0
EndsImage job image call end = ((end ≡ NoMemory) × DidNothing call) ⊎ DidRunImage job image call end

-- The text spells this image, which ran.
pub record DidExec (job : Job) (image : Contents) (call : Call) (end : End) : Type 0 where
  pub read : WasRead job.file enough_of call
  pub text : (text : List ℕ) → text_in call.told job.file ≡ Some text → IsImage text image
  pub run : DidRunImage job image call end

-- some image ran
abbrev pub RanImage : Job → Call → End → Type 0
RanImage job call end = (image : Contents) × DidExec job image call end

-- why `exec IMAGE` ends as it does, and what it did
abbrev pub EndsExec : Job → Call → End → Type 0
EndsExec job call (Ran over) = RanImage job call (Ran over)
EndsExec job call WriteFault = RanImage job call WriteFault
EndsExec job call NoMemory = (call.host_after ≡ call.host_before) × (DidNothing call ⊎ RanImage job call NoMemory)
EndsExec job call ReadFault = HostFails job.file call.told call.host_before call.host_after × DidNothing call
EndsExec job call (BadImage fault) =
    WasRead job.file enough_of call × ((text : List ℕ) → text_in call.told job.file ≡ Some text → reading text ≡ Err fault) × DidNothing call
EndsExec job call Made = ⊥
EndsExec job call Words = ⊥
EndsExec job call (BadSchedule bad) = ⊥
EndsExec job call (BadEntry number) = ⊥
EndsExec job call (BadNumber count) = ⊥
EndsExec job call (Refused reason) = ⊥
