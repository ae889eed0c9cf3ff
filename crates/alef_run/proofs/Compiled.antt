-- From what the stages of compiling a text say to what is known of its image, or why there is none.
use Rattle.std.proofs.Common.{◌≡◌, ℕ, ◌+◌, ◌^◌, List, take, Option, Some, Ok, Err, Result, refl, sym, subst, inl, inr}
use Rattle.std.specs.Prelude.{IfOk, IfErr}
use Rattle.al_host.specs.Outside.{Content}
use Rattle.rv_isa.specs.declared.image.Contents.{Contents}
use Rattle.al_typed.specs.declared.program.Program.{Program}
use Rattle.al_typed.specs.Measures.{IsWithin}
use Rattle.al_front.specs.Accepted.{IsAccepted, IsRefused}
use Rattle.al_front.specs.declared.refused.Refused.{Refused as Reason}
use Rattle.al_front.specs.declared.refused.FrontStop.{FrontStop}
use Rattle.al_front.specs.declared.refused.FrontStop.TheVariants as stop
use Rattle.al_compile.specs.Meant.{IsCompilable}
use Rattle.alef_texts.specs.Call.{IsRead, text_in}
use Rattle.alef_texts.specs.CheckMode.{most_of_text}
use Rattle.alef_run.specs.Compiling.{Compiles, CompilesProgram, IsCompiled, CompilesText, IsImageOf, LacksProgram}
use Rattle.alef_texts.specs.Load.{LacksBytes}
use Rattle.alef_texts.specs.declared.report.End.{End}
use Rattle.alef_texts.specs.declared.report.End.TheVariants.{Ran, Made, Words, ReadFault, Refused, BadImage, BadSchedule, BadEntry, BadNumber, WriteFault, NoMemory}
use Rattle.alef_texts.proofs.Checks.{accepted_whole, refused_whole}

-- ---- a text

pub text_compiles : ((text : List ℕ) (p : Program) → IsAccepted text p → IsCompilable p) → (text : List ℕ) (found : Result Program FrontStop) (image : Result Contents End) → IfOk found (λ p. IsAccepted text p × IsWithin p)
    → ((r : Reason) → found ≡ Err (stop.Refused r) → IsRefused text r) → Compiles found image → CompilesText text image
text_compiles compilable text (Ok p) (Ok image) is refused c = (p, is.0, is.1, c (compilable text p is.0))
text_compiles compilable text (Ok p) (Err end) is refused c = let P : End → Type 0 = λ end. CompilesText text (Err end) in subst P (sym c) tt
text_compiles compilable text (Err (stop.Refused r)) image is refused c = subst (CompilesText text) (sym c) (refused r refl)
text_compiles compilable text (Err stop.NoMemory) image is refused c = subst (CompilesText text) (sym c) tt

-- ---- the text of a name

module _ (file : List ℕ) (told told_after : Option Content) (faults faults_after : ℕ) where
  -- the text was not read
  pub no_bytes_compiled : (end : End) → LacksBytes file end told faults faults_after → LacksProgram file end told told_after faults faults_after
  no_bytes_compiled end (inl l) = let P : End → Type 0 = λ end. LacksProgram file end told told_after faults faults_after in subst P (sym l.0) l.1
  no_bytes_compiled end (inr l) = let P : End → Type 0 = λ end. LacksProgram file end told told_after faults faults_after in subst P (sym l.0) l.1

  module _ (read : IsRead file most_of_text told told_after faults faults_after) (front : List ℕ) (f : (text : List ℕ) → text_in told file ≡ Some text → front ≡ take (2 ^ 20 + 1) text) where
    image_compiled : (image : Contents) → IsCompiled front image → (p : Program) × IsImageOf file p image told told_after faults faults_after
    image_compiled image (p, accepted, within, alike) =
        (p, record { read = read; text = λ text named. accepted_whole text front (f text named) p accepted; within = within; alike = alike })

    none_compiled : (end : End) → CompilesText front (Err end) → LacksProgram file end told told_after faults faults_after
    none_compiled (Refused r) is = (read, λ text named. refused_whole text front (f text named) r is)
    none_compiled NoMemory is = read.calm
    none_compiled (Ran over) is = absurd is
    none_compiled Made is = absurd is
    none_compiled Words is = absurd is
    none_compiled ReadFault is = absurd is
    none_compiled (BadImage fault) is = absurd is
    none_compiled (BadSchedule bad) is = absurd is
    none_compiled (BadEntry number) is = absurd is
    none_compiled (BadNumber count) is = absurd is
    none_compiled WriteFault is = absurd is

    pub image_of_text : (image : Result Contents End) → CompilesText front image → IfOk image (λ image. (p : Program) × IsImageOf file p image told told_after faults faults_after)
    image_of_text (Ok image) is = image_compiled image is
    image_of_text (Err end) is = tt

    pub none_of_text : (image : Result Contents End) → CompilesText front image → IfErr image (λ end. LacksProgram file end told told_after faults faults_after)
    none_of_text (Ok image) is = tt
    none_of_text (Err end) is = none_compiled end is
