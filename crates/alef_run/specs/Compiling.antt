-- From a text to the image that it is compiled to.
use Rattle.std.specs.Prelude.{◌≡◌, ℕ, ⊤, List, Option, Some, Result, Ok, Err}
use Rattle.al_host.specs.Outside.{Content}
use Rattle.rv_isa.specs.declared.image.Contents.{Contents}
use Rattle.al_typed.specs.declared.program.Program.{Program}
use Rattle.al_typed.specs.Measures.{IsWithin}
use Rattle.al_front.specs.Accepted.{IsAccepted, IsRefused}
use Rattle.al_front.specs.declared.refused.FrontStop.{FrontStop}
use Rattle.al_front.specs.declared.refused.FrontStop.TheVariants as front
use Rattle.al_compile.specs.Meant.{IsCompilable, RunsAlike}
use Rattle.alef_texts.specs.Call.{IsRead, HostFails, text_in}
use Rattle.alef_texts.specs.CheckMode.{most_of_text}
use Rattle.alef_texts.specs.declared.report.End.{End}
use Rattle.alef_texts.specs.declared.report.End.TheVariants.{Ran, Made, Words, ReadFault, Refused, BadImage, BadSchedule, BadEntry, BadNumber, WriteFault, NoMemory}

-- what compiling a program gives, which runs alike where the program can be compiled
abbrev pub CompilesProgram : Program → Result Contents End → Type 0
CompilesProgram p (Ok image) = IsCompilable p → RunsAlike p image
CompilesProgram p (Err end) = end ≡ NoMemory

-- what compiling gives where the front end found that
abbrev pub Compiles : Result Program FrontStop → Result Contents End → Type 0
Compiles (Ok p) image = CompilesProgram p image
Compiles (Err (front.Refused reason)) image = image ≡ Err (Refused reason)
Compiles (Err front.NoMemory) image = image ≡ Err NoMemory

-- The text is accepted, within the limits, with a program that runs like that image.
abbrev pub IsCompiled : List ℕ → Contents → Type 0
IsCompiled text image = (p : Program) × IsAccepted text p × IsWithin p × RunsAlike p image

-- what compiling a text gives
abbrev pub CompilesText : List ℕ → Result Contents End → Type 0
CompilesText text (Ok image) = IsCompiled text image
CompilesText text (Err (Refused reason)) = IsRefused text reason
CompilesText text (Err NoMemory) = ⊤
CompilesText text (Err (Ran over)) = ⊥
CompilesText text (Err Made) = ⊥
CompilesText text (Err Words) = ⊥
CompilesText text (Err ReadFault) = ⊥
CompilesText text (Err (BadImage fault)) = ⊥
CompilesText text (Err (BadSchedule bad)) = ⊥
CompilesText text (Err (BadEntry number)) = ⊥
CompilesText text (Err (BadNumber count)) = ⊥
CompilesText text (Err WriteFault) = ⊥

-- The text of that name was read. It is accepted, within the limits, with this program, which runs like that image.
pub record IsImageOf (file : List ℕ) (p : Program) (image : Contents) (told told_after : Option Content) (faults faults_after : ℕ) : Type 0 where
  pub read : IsRead file most_of_text told told_after faults faults_after
  pub text : (text : List ℕ) → text_in told file ≡ Some text → IsAccepted text p
  pub within : IsWithin p
  pub alike : RunsAlike p image

-- why there is no image of the text of that name
abbrev pub LacksProgram : List ℕ → End → (told told_after : Option Content) → (faults faults_after : ℕ) → Type 0
LacksProgram file ReadFault told told_after faults faults_after = HostFails file told faults faults_after
LacksProgram file (Refused reason) told told_after faults faults_after =
    IsRead file most_of_text told told_after faults faults_after × ((text : List ℕ) → text_in told file ≡ Some text → IsRefused text reason)
LacksProgram file NoMemory told told_after faults faults_after = faults_after ≡ faults
LacksProgram file (Ran over) told told_after faults faults_after = ⊥
LacksProgram file Made told told_after faults faults_after = ⊥
LacksProgram file Words told told_after faults faults_after = ⊥
LacksProgram file (BadImage fault) told told_after faults faults_after = ⊥
LacksProgram file (BadSchedule bad) told told_after faults faults_after = ⊥
LacksProgram file (BadEntry number) told told_after faults faults_after = ⊥
LacksProgram file (BadNumber count) told told_after faults faults_after = ⊥
LacksProgram file WriteFault told told_after faults faults_after = ⊥
