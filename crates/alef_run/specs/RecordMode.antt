-- The mode `record`: a text is compiled, its image runs, and the schedule is written in place of the output.
use Rattle.std.specs.Prelude.{◌≡◌, ℕ, ◌⊎◌, List, Option, None}
use Rattle.al_base.specs.declared.over.Over.{Over}
use Rattle.al_event.specs.declared.entry.Entry.{Entry}
use Rattle.al_host.specs.Outside.{Faulted, WhereTold}
use Rattle.al_trace.specs.Schedule.{schedule_text}
use Rattle.al_words.specs.declared.job.Job.{Job}
use Rattle.alef_texts.specs.Call.{Call}
use Rattle.alef_texts.specs.Outside.{GetsAll, GetsPart}
use Rattle.alef_texts.specs.StepMode.{WroteNothing}
use Rattle.alef_run.specs.RunMode.{RanText, EndsRun}
use Rattle.alef_texts.specs.declared.report.End.{End}
use Rattle.alef_texts.specs.declared.report.End.TheVariants.{Ran, Made, Words, ReadFault, Refused, BadImage, BadSchedule, BadEntry, BadNumber, WriteFault, NoMemory}

-- the call as one whose output went nowhere
abbrev pub unseen : Call → Call
unseen call = record call { got_before = None; got_after = None; out_before = 0; out_after = 0 }

-- the text of the schedule was written as far as that
abbrev pub WroteSchedule : (List ℕ → List ℕ → List ℕ → Type 0) → Call → Type 0
WroteSchedule Gets call = WhereTold (Gets (schedule_text call.schedule)) call.got_before call.got_after

-- Why `record FILE` ends as it does, and what it did: the image ran as in `run`, its output went nowhere, and the text of the schedule was
-- written. After another end nothing was written.
abbrev pub EndsRecord : Job → Call → End → Type 0
EndsRecord job call (Ran over) = RanText job (unseen call) (Ran over) × WroteSchedule GetsAll call × (call.out_after ≡ call.out_before)
EndsRecord job call WriteFault =
    ((over : Over) × RanText job (unseen call) (Ran over)) × WroteSchedule GetsPart call × Faulted call.out_before call.out_after
EndsRecord job call NoMemory = EndsRun job (unseen call) NoMemory × WroteNothing call
EndsRecord job call ReadFault = EndsRun job (unseen call) ReadFault × WroteNothing call
EndsRecord job call (Refused reason) = EndsRun job (unseen call) (Refused reason) × WroteNothing call
EndsRecord job call Made = ⊥
EndsRecord job call Words = ⊥
EndsRecord job call (BadSchedule bad) = ⊥
EndsRecord job call (BadEntry number) = ⊥
EndsRecord job call (BadNumber count) = ⊥
EndsRecord job call (BadImage fault) = ⊥

-- what became of the end of a run when its schedule was written
abbrev pub EndsWriting : (run : End) → List Entry → End → Option (List ℕ) → Option (List ℕ) → ℕ → ℕ → Type 0
EndsWriting (Ran over) h end before after faults faults' =
    ((end ≡ Ran over) × WhereTold (GetsAll (schedule_text h)) before after × (faults' ≡ faults))
    ⊎ ((end ≡ WriteFault) × WhereTold (GetsPart (schedule_text h)) before after × Faulted faults faults')
EndsWriting run h end before after faults faults' = (end ≡ run) × (after ≡ before) × (faults' ≡ faults)
