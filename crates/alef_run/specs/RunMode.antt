-- The mode `run`: a text is compiled, and its image runs.
use Rattle.std.specs.Prelude.{◌≡◌, ℕ, ◌⊎◌, List, Some}
use Rattle.al_words.specs.declared.job.Job.{Job}
use Rattle.rv_isa.specs.declared.image.Contents.{Contents}
use Rattle.al_typed.specs.declared.program.Program.{Program}
use Rattle.al_front.specs.Accepted.{IsRefused}
use Rattle.alef_texts.specs.Call.{Call, WasRead, DidNothing, HostFails, text_in}
use Rattle.alef_texts.specs.CheckMode.{most_of_text}
use Rattle.alef_run.specs.Compiling.{IsImageOf}
use Rattle.alef_run.specs.ExecMode.{DidRunImage}
use Rattle.alef_texts.specs.declared.report.End.{End}
use Rattle.alef_texts.specs.declared.report.End.TheVariants.{Ran, Made, Words, ReadFault, Refused, BadImage, BadSchedule, BadEntry, BadNumber, WriteFault, NoMemory}

-- The text is accepted, within the limits, with this program, which runs like that image. The image ran.
pub record DidRun (job : Job) (p : Program) (image : Contents) (call : Call) (end : End) : Type 0 where
  pub compiled : IsImageOf job.file p image call.told call.told_after call.host_before call.host_after
  pub run : DidRunImage job image call end

-- the image of some program ran
abbrev pub RanText : Job → Call → End → Type 0
RanText job call end = (p : Program) × (image : Contents) × DidRun job p image call end

-- why `run FILE` ends as it does, and what it did
abbrev pub EndsRun : Job → Call → End → Type 0
EndsRun job call (Ran over) = RanText job call (Ran over)
EndsRun job call WriteFault = RanText job call WriteFault
EndsRun job call NoMemory = (call.host_after ≡ call.host_before) × (DidNothing call ⊎ RanText job call NoMemory)
EndsRun job call ReadFault = HostFails job.file call.told call.host_before call.host_after × DidNothing call
EndsRun job call (Refused reason) =
    WasRead job.file most_of_text call × ((text : List ℕ) → text_in call.told job.file ≡ Some text → IsRefused text reason) × DidNothing call
EndsRun job call Made = ⊥
EndsRun job call Words = ⊥
EndsRun job call (BadSchedule bad) = ⊥
EndsRun job call (BadEntry number) = ⊥
EndsRun job call (BadNumber count) = ⊥
EndsRun job call (BadImage fault) = ⊥
