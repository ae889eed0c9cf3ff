-- What a replay comes to as the text means it.
use Rattle.std.specs.Prelude.{◌≡◌, ◌⊎◌, List, take}
use Rattle.al_event.specs.declared.entry.Entry.{Entry}
use Rattle.al_words.specs.declared.job.Job.{Job}
use Rattle.al_typed.specs.declared.program.Program.{Program}
use Rattle.al_show.specs.Walks.{IsRefused}
use Rattle.alef_texts.specs.Call.{Call, DidNothing}
use Rattle.alef_texts.specs.Outside.{GetsAll, GetsPart}
use Rattle.alef_texts.specs.StepMode.{bytes_of_region}
use Rattle.alef_run.specs.Meant.{EndsAsMeant, WroteAsMeant}
use Rattle.alef_run.specs.ReplayMode.{along}
use Rattle.alef_texts.specs.declared.report.End.{End}
use Rattle.alef_texts.specs.declared.report.End.TheVariants.{Ran, Made, Words, ReadFault, Refused, BadImage, BadSchedule, BadEntry, BadNumber, WriteFault, NoMemory}

-- How `replay` ends where it runs this program along the schedule h: just the output was written that the program's meaning gives along
-- h, and the call ends as it ends there. Where entry k is the first that the meaning does not permit, the output along those before it
-- was written. After want of memory or a fault of the output, a first part of it was written.
abbrev pub ReplaysAsMeant : Program → Job → List Entry → Call → End → Type 0
ReplaysAsMeant p job h call (Ran over) = (call.schedule ≡ h) × EndsAsMeant p (along h job) call (Ran over)
ReplaysAsMeant p job h call (BadEntry k) =
    IsRefused p (bytes_of_region job) h k × (call.schedule ≡ take k h) × WroteAsMeant p (along h job) GetsAll call
ReplaysAsMeant p job h call WriteFault = WroteAsMeant p (along h job) GetsPart call
ReplaysAsMeant p job h call NoMemory = DidNothing call ⊎ WroteAsMeant p (along h job) GetsPart call
ReplaysAsMeant p job h call ReadFault = DidNothing call
ReplaysAsMeant p job h call Made = ⊥
ReplaysAsMeant p job h call Words = ⊥
ReplaysAsMeant p job h call (Refused reason) = ⊥
ReplaysAsMeant p job h call (BadImage fault) = ⊥
ReplaysAsMeant p job h call (BadSchedule bad) = ⊥
ReplaysAsMeant p job h call (BadNumber count) = ⊥
