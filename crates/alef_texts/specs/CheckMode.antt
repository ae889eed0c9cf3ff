-- The mode `check`: a text is checked, and nothing runs.
use Rattle.std.specs.Prelude.{◌≡◌, ℕ, ◌+◌, ⊤, List, Some, Result, Ok, Err}
use Rattle.al_typed.specs.declared.program.Program.{Program}
use Rattle.al_typed.specs.Measures.{IsWithin}
use Rattle.al_front.specs.Accepted.{IsAccepted, IsRefused, most}
use Rattle.al_front.specs.declared.refused.FrontStop.{FrontStop}
use Rattle.al_front.specs.declared.refused.FrontStop.TheVariants as stop
use Rattle.alef_texts.specs.Call.{Call, WasRead, DidNothing, HostFails, text_in}
use Rattle.alef_texts.specs.declared.report.End.{End}
use Rattle.alef_texts.specs.declared.report.End.TheVariants.{Ran, Made, Words, ReadFault, Refused, BadImage, BadSchedule, BadEntry, BadNumber, WriteFault, NoMemory}

-- a text is read to its end, or to one byte past what a text has at most
abbrev pub most_of_text : List ℕ → ℕ
most_of_text text = most + 1

-- the text is accepted, and its program is within the limits
abbrev pub HasProgram : List ℕ → Type 0
HasProgram text = (p : Program) × IsAccepted text p × IsWithin p

-- how a call ends where the front end found that
abbrev pub end_of : {T : Type 0} → Result T FrontStop → End
end_of (Ok found) = Made
end_of (Err (stop.Refused reason)) = Refused reason
end_of (Err stop.NoMemory) = NoMemory

-- what the end of a check says of the text
abbrev pub EndsText : List ℕ → End → Type 0
EndsText text Made = HasProgram text
EndsText text (Refused reason) = IsRefused text reason
EndsText text NoMemory = ⊤
EndsText text (Ran over) = ⊥
EndsText text Words = ⊥
EndsText text (BadSchedule bad) = ⊥
EndsText text (BadEntry number) = ⊥
EndsText text (BadNumber count) = ⊥
EndsText text ReadFault = ⊥
EndsText text (BadImage fault) = ⊥
EndsText text WriteFault = ⊥

-- why `check FILE` ends as it does
abbrev pub EndsCheck : List ℕ → Call → End → Type 0
EndsCheck file call Made =
    WasRead file most_of_text call × ((text : List ℕ) → text_in call.told file ≡ Some text → HasProgram text) × DidNothing call
EndsCheck file call (Refused reason) =
    WasRead file most_of_text call × ((text : List ℕ) → text_in call.told file ≡ Some text → IsRefused text reason) × DidNothing call
EndsCheck file call ReadFault = HostFails file call.told call.host_before call.host_after × DidNothing call
EndsCheck file call NoMemory = (call.host_after ≡ call.host_before) × DidNothing call
EndsCheck file call (Ran over) = ⊥
EndsCheck file call Words = ⊥
EndsCheck file call (BadSchedule bad) = ⊥
EndsCheck file call (BadEntry number) = ⊥
EndsCheck file call (BadNumber count) = ⊥
EndsCheck file call (BadImage fault) = ⊥
EndsCheck file call WriteFault = ⊥
