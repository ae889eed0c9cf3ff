-- The mode `build`: a text is compiled, and the bytes of its image are written.
use Rattle.std.specs.Prelude.{◌≡◌, ℕ, List, [], Option, Some, None, Ok}
use Rattle.al_host.specs.Outside.{Faulted, WhereTold}
use Rattle.rv_isa.specs.declared.image.Contents.{Contents}
use Rattle.rv_image.specs.Spelling.{IsImage2}
use Rattle.rv_image.specs.Reading.{reading}
use Rattle.al_typed.specs.declared.program.Program.{Program}
use Rattle.al_front.specs.Accepted.{IsRefused}
use Rattle.alef_texts.specs.Call.{Call, WasRead, DidNothing, HostFails, text_in}
use Rattle.alef_texts.specs.CheckMode.{most_of_text}
use Rattle.alef_run.specs.Compiling.{IsImageOf}
use Rattle.alef_texts.specs.Outside.{GetsAll, GetsPart}
use Rattle.alef_texts.specs.declared.report.End.{End}
use Rattle.alef_texts.specs.declared.report.End.TheVariants.{Ran, Made, Words, ReadFault, Refused, BadImage, BadSchedule, BadEntry, BadNumber, WriteFault, NoMemory}

-- The text is accepted, within the limits, with this program, which runs like that image. The bytes are the image's, and are read as
-- that image. Nothing ran.
pub record DidBuild (file : List ℕ) (p : Program) (image : Contents) (bytes : List ℕ) (call : Call) : Type 0 where
  pub compiled : IsImageOf file p image call.told call.told_after call.host_before call.host_after
  pub spelling : IsImage2 bytes image
  pub again : reading bytes ≡ Ok image
  pub schedule : call.schedule ≡ []
  pub work : call.work ≡ 0
  pub none_ran : call.image ≡ None

-- the bytes of the image of some program were written as far as that
abbrev pub BuiltText : List ℕ → (List ℕ → List ℕ → List ℕ → Type 0) → Call → Type 0
BuiltText file Gets call =
    (p : Program) × (image : Contents) × (bytes : List ℕ) × DidBuild file p image bytes call × WhereTold (Gets bytes) call.got_before call.got_after

-- why `build FILE` ends as it does, and what it did
abbrev pub EndsBuild : List ℕ → Call → End → Type 0
EndsBuild file call Made = (call.out_after ≡ call.out_before) × BuiltText file GetsAll call
EndsBuild file call WriteFault = Faulted call.out_before call.out_after × BuiltText file GetsPart call
EndsBuild file call NoMemory = (call.host_after ≡ call.host_before) × DidNothing call
EndsBuild file call ReadFault = HostFails file call.told call.host_before call.host_after × DidNothing call
EndsBuild file call (Refused reason) =
    WasRead file most_of_text call × ((text : List ℕ) → text_in call.told file ≡ Some text → IsRefused text reason) × DidNothing call
EndsBuild file call (Ran over) = ⊥
EndsBuild file call Words = ⊥
EndsBuild file call (BadSchedule bad) = ⊥
EndsBuild file call (BadEntry number) = ⊥
EndsBuild file call (BadNumber count) = ⊥
EndsBuild file call (BadImage fault) = ⊥

-- what writing the bytes of an image comes to
abbrev pub EndsWrite : Contents → End → Option (List ℕ) → Option (List ℕ) → ℕ → ℕ → Type 0
EndsWrite image Made before after faults faults' =
    (bytes : List ℕ) × IsImage2 bytes image × (reading bytes ≡ Ok image) × WhereTold (GetsAll bytes) before after × (faults' ≡ faults)
EndsWrite image WriteFault before after faults faults' =
    (bytes : List ℕ) × IsImage2 bytes image × (reading bytes ≡ Ok image) × WhereTold (GetsPart bytes) before after × Faulted faults faults'
EndsWrite image NoMemory before after faults faults' = (after ≡ before) × (faults' ≡ faults)
EndsWrite image ReadFault before after faults faults' = ⊥
EndsWrite image (Refused reason) before after faults faults' = ⊥
EndsWrite image (Ran over) before after faults faults' = ⊥
EndsWrite image Words before after faults faults' = ⊥
EndsWrite image (BadImage fault) before after faults faults' = ⊥
EndsWrite image (BadSchedule bad) before after faults faults' = ⊥
EndsWrite image (BadEntry number) before after faults faults' = ⊥
EndsWrite image (BadNumber count) before after faults faults' = ⊥
