-- The mode `sample`: the sample text of a number is compiled and runs, and then the number of its functions is written.
use Rattle.std.specs.Prelude.{◌≡◌, ℕ, ◌⊎◌, List, ◌++◌, Option, Some, codes, decimal}
use Rattle.al_host.specs.Outside.{Faulted, WhereTold}
use Rattle.al_words.specs.declared.job.Job.{Job}
use Rattle.rv_isa.specs.declared.image.Contents.{Contents}
use Rattle.al_sample.specs.Sample.{functions_of, sample_text}
use Rattle.al_front.specs.Accepted.{IsRefused}
use Rattle.al_core.specs.History.{output_of, work_of}
use Rattle.alef_texts.specs.Call.{Call, IsUnread, DidNothing}
use Rattle.alef_texts.specs.Outside.{GetsAll, GetsPart}
use Rattle.alef_run.specs.Compiling.{IsCompiled}
use Rattle.alef_run.specs.ExecMode.{comes_to}
use Rattle.alef_run.specs.Rounds.{IsLegal, IsOver}
use Rattle.alef_texts.specs.declared.report.End.{End}
use Rattle.alef_texts.specs.declared.report.End.TheVariants.{Ran, Made, Words, ReadFault, Refused, BadImage, BadSchedule, BadEntry, BadNumber, WriteFault, NoMemory}

-- the line behind the output, with its line feed
abbrev pub count_line : (number : ℕ) → List ℕ
count_line number = codes "functions " ++ decimal (functions_of number) ++ codes "\n"

-- The sample text is accepted, within the limits, with a program that runs like this image, which ran.
pub record RanSample (job : Job) (image : Contents) (call : Call) : Type 0 where
  pub compiled : IsCompiled (sample_text job.number) image
  pub image_is : call.image ≡ Some image
  pub legal : IsLegal job.workers (comes_to image job call)
  pub work : call.work ≡ work_of (comes_to image job call)

-- all that is to be written
abbrev pub sample_output : Job → Contents → Call → List ℕ
sample_output job image call = output_of (comes_to image job call) ++ count_line job.number

-- the image ran, and a first part of what is to be written was
abbrev pub RanPart : Job → Call → Type 0
RanPart job call =
    (image : Contents) × RanSample job image call × WhereTold (GetsPart (sample_output job image call)) call.got_before call.got_after

-- Why `sample` ends as it does, and what it did. No text is read.
abbrev pub EndsSample : Job → Call → End → Type 0
EndsSample job call (Ran over) =
    (image : Contents) × RanSample job image call × IsOver (comes_to image job call) over
    × WhereTold (GetsAll (sample_output job image call)) call.got_before call.got_after × (call.out_after ≡ call.out_before) × IsUnread call
EndsSample job call WriteFault = RanPart job call × Faulted call.out_before call.out_after × IsUnread call
EndsSample job call NoMemory = (DidNothing call ⊎ (RanPart job call × (call.out_after ≡ call.out_before))) × IsUnread call
EndsSample job call (Refused reason) = IsRefused (sample_text job.number) reason × DidNothing call × IsUnread call
EndsSample job call Made = ⊥
EndsSample job call Words = ⊥
EndsSample job call ReadFault = ⊥
EndsSample job call (BadImage fault) = ⊥
EndsSample job call (BadSchedule bad) = ⊥
EndsSample job call (BadEntry number) = ⊥
EndsSample job call (BadNumber count) = ⊥

-- what became of the end of a run when the number of functions was written
abbrev pub EndsCounting : (run : End) → (number : ℕ) → End → Option (List ℕ) → Option (List ℕ) → ℕ → ℕ → Type 0
EndsCounting (Ran over) number end before after faults faults' =
    ((end ≡ Ran over) × WhereTold (GetsAll (count_line number)) before after × (faults' ≡ faults))
    ⊎ ((end ≡ WriteFault) × WhereTold (GetsPart (count_line number)) before after × Faulted faults faults')
EndsCounting run number end before after faults faults' = (end ≡ run) × (after ≡ before) × (faults' ≡ faults)
