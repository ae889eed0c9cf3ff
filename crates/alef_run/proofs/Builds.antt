-- The mode `build`: from what its stages say to why it ends as it does, and to which end each cause has.
use Rattle.std.proofs.Common.{◌≡◌, ℕ, ◌<◌, List, [], Option, Some, None, refl, sym, subst, ◌∙◌, arith, inl, inr}
use Rattle.std.specs.Prelude.{◌⊎◌}
use Rattle.al_host.specs.Outside.{Content, Faulted}
use Rattle.rv_isa.specs.declared.image.Contents.{Contents}
use Rattle.al_typed.specs.declared.program.Program.{Program}
use Rattle.al_front.specs.Accepted.{IsRefused}
use Rattle.al_front.specs.declared.refused.Refused.{Refused as Reason}
use Rattle.al_front.proofs.Laws.{never_both}
use Rattle.alef_run.specs.BuildMode.{DidBuild, BuiltText, EndsBuild, EndsWrite}
use Rattle.alef_texts.specs.Call.{Call, DidNothing, LacksText, text_in}
use Rattle.alef_texts.specs.CheckMode.{HasProgram}
use Rattle.alef_run.specs.Compiling.{IsImageOf, LacksProgram}
use Rattle.alef_texts.specs.Outside.{GetsAll, GetsPart}
use Rattle.alef_texts.specs.declared.report.End.{End}
use Rattle.alef_texts.specs.declared.report.End.TheVariants.{Ran, Made, Words, ReadFault, Refused, BadImage, BadSchedule, BadEntry, BadNumber, WriteFault, NoMemory}
use Rattle.alef_texts.proofs.Told.{neither, not_missing}

module _ (file : List ℕ) (call : Call) where
  -- ---- stages

  no_program : (end : End) → LacksProgram file end call.told call.told_after call.host_before call.host_after → DidNothing call → EndsBuild file call end
  no_program ReadFault l nothing = (l, nothing)
  no_program (Refused reason) l nothing = (l.0, l.1, nothing)
  no_program NoMemory l nothing = (l, nothing)
  no_program (Ran over) l nothing = absurd l
  no_program Made l nothing = absurd l
  no_program Words l nothing = absurd l
  no_program (BadImage fault) l nothing = absurd l
  no_program (BadSchedule bad) l nothing = absurd l
  no_program (BadEntry number) l nothing = absurd l
  no_program (BadNumber count) l nothing = absurd l
  no_program WriteFault l nothing = absurd l

  -- there is no image of the text
  pub build_lacks : (end why : End) → end ≡ why → LacksProgram file why call.told call.told_after call.host_before call.host_after → DidNothing call → EndsBuild file call end
  build_lacks end why e l nothing = subst (EndsBuild file call) (sym e) (no_program why l nothing)

  module _ (p : Program) (image : Contents) (compiled : IsImageOf file p image call.told call.told_after call.host_before call.host_after)
      (schedule : call.schedule ≡ []) (work : call.work ≡ 0) (none_ran : call.image ≡ None) where
    written : (end : End) → EndsWrite image end call.got_before call.got_after call.out_before call.out_after → EndsBuild file call end
    written Made (bytes, spelling, again, wrote, calm) =
        (calm, (p, image, bytes, record { compiled = compiled; spelling = spelling; again = again; schedule = schedule; work = work; none_ran = none_ran }, wrote))
    written WriteFault (bytes, spelling, again, wrote, fault) =
        (fault, (p, image, bytes, record { compiled = compiled; spelling = spelling; again = again; schedule = schedule; work = work; none_ran = none_ran }, wrote))
    written NoMemory (got, calm) = (compiled.read.calm, record { schedule = schedule; work = work; image = none_ran; got = got; calm = calm })
    written ReadFault w = absurd w
    written (Refused reason) w = absurd w
    written (Ran over) w = absurd w
    written Words w = absurd w
    written (BadImage fault) w = absurd w
    written (BadSchedule bad) w = absurd w
    written (BadEntry number) w = absurd w
    written (BadNumber count) w = absurd w

    -- the bytes of the image were written, or not
    pub was_written : (end why : End) → end ≡ why → EndsWrite image why call.got_before call.got_after call.out_before call.out_after → EndsBuild file call end
    was_written end why e w = subst (EndsBuild file call) (sym e) (written why w)

  -- ---- causes

  pub missing_build : (end : End) → EndsBuild file call end → LacksText call.told file → (end ≡ ReadFault) ⊎ (end ≡ NoMemory)
  missing_build Made e m = absurd (e.1.3.compiled.read.found m)
  missing_build WriteFault e m = absurd (e.1.3.compiled.read.found m)
  missing_build ReadFault e m = inl refl
  missing_build (Refused reason) e m = absurd (e.0.found m)
  missing_build NoMemory e m = inr refl
  missing_build (Ran over) e m = absurd e
  missing_build Words e m = absurd e
  missing_build (BadSchedule bad) e m = absurd e
  missing_build (BadEntry number) e m = absurd e
  missing_build (BadNumber count) e m = absurd e
  missing_build (BadImage fault) e m = absurd e

  pub host_build : (end : End) → EndsBuild file call end → call.host_before < call.host_after → end ≡ ReadFault
  host_build Made e rose = let calm = e.1.3.compiled.read.calm in absurd (omega (arith, calm, rose))
  host_build WriteFault e rose = let calm = e.1.3.compiled.read.calm in absurd (omega (arith, calm, rose))
  host_build ReadFault e rose = refl
  host_build (Refused reason) e rose = let calm = e.0.calm in absurd (omega (arith, calm, rose))
  host_build NoMemory e rose = let calm = e.0 in absurd (omega (arith, calm, rose))
  host_build (Ran over) e rose = absurd e
  host_build Words e rose = absurd e
  host_build (BadSchedule bad) e rose = absurd e
  host_build (BadEntry number) e rose = absurd e
  host_build (BadNumber count) e rose = absurd e
  host_build (BadImage fault) e rose = absurd e

  pub out_build : (end : End) → EndsBuild file call end → call.out_before < call.out_after → end ≡ WriteFault
  out_build Made e rose = let calm = e.0 in absurd (omega (arith, calm, rose))
  out_build WriteFault e rose = refl
  out_build ReadFault e rose = let calm = e.1.calm in absurd (omega (arith, calm, rose))
  out_build (Refused reason) e rose = let calm = e.2.calm in absurd (omega (arith, calm, rose))
  out_build NoMemory e rose = let calm = e.1.calm in absurd (omega (arith, calm, rose))
  out_build (Ran over) e rose = absurd e
  out_build Words e rose = absurd e
  out_build (BadSchedule bad) e rose = absurd e
  out_build (BadEntry number) e rose = absurd e
  out_build (BadNumber count) e rose = absurd e
  out_build (BadImage fault) e rose = absurd e

  module _ (text : List ℕ) (is : text_in call.told file ≡ Some text) where
    has_program : (Gets : List ℕ → List ℕ → List ℕ → Type 0) → BuiltText file Gets call → HasProgram text
    has_program Gets (p, image, bytes, d, wrote) = (p, d.compiled.text text is, d.compiled.within)

    pub refused_build : (HasProgram text → ⊥) → (end : End) → EndsBuild file call end → ((r : Reason) × (end ≡ Refused r) × IsRefused text r) ⊎ ((end ≡ ReadFault) ⊎ (end ≡ NoMemory))
    refused_build none Made e = absurd (none (has_program GetsAll e.1))
    refused_build none WriteFault e = absurd (none (has_program GetsPart e.1))
    refused_build none ReadFault e = inr (inl refl)
    refused_build none (Refused reason) e = inl (reason, refl, e.1 text is)
    refused_build none NoMemory e = inr (inr refl)
    refused_build none (Ran over) e = absurd e
    refused_build none Words e = absurd e
    refused_build none (BadSchedule bad) e = absurd e
    refused_build none (BadEntry number) e = absurd e
    refused_build none (BadNumber count) e = absurd e
    refused_build none (BadImage fault) e = absurd e

    pub complete_build : HasProgram text → (Faulted call.host_before call.host_after → ⊥) → (Faulted call.out_before call.out_after → ⊥) → (end : End) → EndsBuild file call end
        → (end ≡ Made) ⊎ (end ≡ NoMemory)
    complete_build has calm calm' Made e = inl refl
    complete_build has calm calm' WriteFault e = absurd (calm' e.0)
    complete_build has calm calm' ReadFault e = absurd (neither e.0 calm (λ m. not_missing call.told text file is m))
    complete_build has calm calm' (Refused reason) e = absurd (never_both text has.0 reason has.1 has.2 (e.1 text is))
    complete_build has calm calm' NoMemory e = inr refl
    complete_build has calm calm' (Ran over) e = absurd e
    complete_build has calm calm' Words e = absurd e
    complete_build has calm calm' (BadSchedule bad) e = absurd e
    complete_build has calm calm' (BadEntry number) e = absurd e
    complete_build has calm calm' (BadNumber count) e = absurd e
    complete_build has calm calm' (BadImage fault) e = absurd e
