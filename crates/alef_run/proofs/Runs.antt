-- The mode `run`: from what its stages say to why it ends as it does, and to which end each cause has.
use Rattle.std.proofs.Common.{◌≡◌, ℕ, ◌<◌, List, Option, Some, refl, sym, ap, subst, arith, inl, inr}
use Rattle.std.specs.Prelude.{◌⊎◌}
use Rattle.al_base.specs.declared.over.Over.{Over}
use Rattle.al_host.specs.Outside.{Content, Faulted}
use Rattle.al_words.specs.declared.job.Job.{Job}
use Rattle.rv_isa.specs.declared.image.Contents.{Contents}
use Rattle.al_typed.specs.declared.program.Program.{Program}
use Rattle.al_front.specs.Accepted.{IsRefused}
use Rattle.al_front.specs.declared.refused.Refused.{Refused as Reason}
use Rattle.al_front.proofs.Laws.{never_both}
use Rattle.alef_texts.specs.Call.{Call, WasRead, DidNothing, HostFails, LacksText, text_in}
use Rattle.alef_texts.specs.CheckMode.{most_of_text, HasProgram}
use Rattle.alef_run.specs.Compiling.{IsImageOf, LacksProgram}
use Rattle.alef_run.specs.ExecMode.{DidRunImage, EndsImage}
use Rattle.alef_run.specs.RunMode.{DidRun, RanText, EndsRun}
use Rattle.alef_texts.specs.declared.report.End.{End}
use Rattle.alef_texts.specs.declared.report.End.TheVariants.{Ran, Made, Words, ReadFault, Refused, BadImage, BadSchedule, BadEntry, BadNumber, WriteFault, NoMemory}
use Rattle.alef_texts.proofs.Told.{neither, not_missing}

-- ---- stages

module _ (job : Job) (call : Call) where
  no_program : (end : End) → LacksProgram job.file end call.told call.told_after call.host_before call.host_after → DidNothing call → EndsRun job call end
  no_program ReadFault l nothing = (l, nothing)
  no_program (Refused reason) l nothing = (l.0, l.1, nothing)
  no_program NoMemory l nothing = (l, inl nothing)
  no_program (Ran over) l nothing = absurd l
  no_program Made l nothing = absurd l
  no_program Words l nothing = absurd l
  no_program (BadImage fault) l nothing = absurd l
  no_program (BadSchedule bad) l nothing = absurd l
  no_program (BadEntry number) l nothing = absurd l
  no_program (BadNumber count) l nothing = absurd l
  no_program WriteFault l nothing = absurd l

  -- there is no image of the text
  pub run_lacks : (file : List ℕ) (end why : End) → file ≡ job.file → end ≡ why → LacksProgram file why call.told call.told_after call.host_before call.host_after → DidNothing call → EndsRun job call end
  run_lacks file end why named e l nothing =
      let F : List ℕ → Type 0 = λ file. LacksProgram file why call.told call.told_after call.host_before call.host_after in
      subst (EndsRun job call) (sym e) (no_program why (subst F named l) nothing)

  module _ (p : Program) (image : Contents) where
    text_ran : IsImageOf job.file p image call.told call.told_after call.host_before call.host_after → (end : End) → DidRunImage job image call end → EndsRun job call end
    text_ran compiled (Ran over) d = (p, image, record { compiled = compiled; run = d })
    text_ran compiled WriteFault d = (p, image, record { compiled = compiled; run = d })
    text_ran compiled NoMemory d = (compiled.read.calm, inr (p, image, record { compiled = compiled; run = d }))
    text_ran compiled Made d = absurd d.ran
    text_ran compiled Words d = absurd d.ran
    text_ran compiled (BadSchedule bad) d = absurd d.ran
    text_ran compiled (BadEntry number) d = absurd d.ran
    text_ran compiled (BadNumber count) d = absurd d.ran
    text_ran compiled ReadFault d = absurd d.ran
    text_ran compiled (Refused reason) d = absurd d.ran
    text_ran compiled (BadImage fault) d = absurd d.ran

    -- what the stages of `run` say together
    pub run_ends : (file : List ℕ) (end : End) → file ≡ job.file → IsImageOf file p image call.told call.told_after call.host_before call.host_after → EndsImage job image call end → EndsRun job call end
    run_ends file end named compiled (inl none) = subst (EndsRun job call) (sym none.0) (compiled.read.calm, inl none.1)
    run_ends file end named compiled (inr run) =
        let F : List ℕ → Type 0 = λ file. IsImageOf file p image call.told call.told_after call.host_before call.host_after in
        text_ran (subst F named compiled) end run

  -- ---- causes

  pub missing_run : (end : End) → EndsRun job call end → LacksText call.told job.file → (end ≡ ReadFault) ⊎ (end ≡ NoMemory)
  missing_run (Ran over) e m = absurd (e.2.compiled.read.found m)
  missing_run WriteFault e m = absurd (e.2.compiled.read.found m)
  missing_run ReadFault e m = inl refl
  missing_run (Refused reason) e m = absurd (e.0.found m)
  missing_run NoMemory e m = inr refl
  missing_run Made e m = absurd e
  missing_run Words e m = absurd e
  missing_run (BadSchedule bad) e m = absurd e
  missing_run (BadEntry number) e m = absurd e
  missing_run (BadNumber count) e m = absurd e
  missing_run (BadImage fault) e m = absurd e

  pub host_run : (end : End) → EndsRun job call end → call.host_before < call.host_after → end ≡ ReadFault
  host_run (Ran over) e rose = let calm = e.2.compiled.read.calm in absurd (omega (arith, calm, rose))
  host_run WriteFault e rose = let calm = e.2.compiled.read.calm in absurd (omega (arith, calm, rose))
  host_run ReadFault e rose = refl
  host_run (Refused reason) e rose = let calm = e.0.calm in absurd (omega (arith, calm, rose))
  host_run NoMemory e rose = let calm = e.0 in absurd (omega (arith, calm, rose))
  host_run Made e rose = absurd e
  host_run Words e rose = absurd e
  host_run (BadSchedule bad) e rose = absurd e
  host_run (BadEntry number) e rose = absurd e
  host_run (BadNumber count) e rose = absurd e
  host_run (BadImage fault) e rose = absurd e

  pub out_run : (end : End) → EndsRun job call end → call.out_before < call.out_after → end ≡ WriteFault
  out_run (Ran over) e rose = let calm = e.2.run.ran.2 in absurd (omega (arith, calm, rose))
  out_run WriteFault e rose = refl
  out_run ReadFault e rose = let calm = e.1.calm in absurd (omega (arith, calm, rose))
  out_run (Refused reason) e rose = let calm = e.2.calm in absurd (omega (arith, calm, rose))
  out_run NoMemory e rose = absurd (neither e.1 (λ n. let calm = n.calm in omega (arith, calm, rose)) (λ r. let calm = r.2.run.ran.1 in omega (arith, calm, rose)))
  out_run Made e rose = absurd e
  out_run Words e rose = absurd e
  out_run (BadSchedule bad) e rose = absurd e
  out_run (BadEntry number) e rose = absurd e
  out_run (BadNumber count) e rose = absurd e
  out_run (BadImage fault) e rose = absurd e

  module _ (text : List ℕ) (is : text_in call.told job.file ≡ Some text) where
    has_program : (end : End) → RanText job call end → HasProgram text
    has_program end (p, image, d) = (p, d.compiled.text text is, d.compiled.within)

    pub refused_run : (HasProgram text → ⊥) → (end : End) → EndsRun job call end → ((r : Reason) × (end ≡ Refused r) × IsRefused text r) ⊎ ((end ≡ ReadFault) ⊎ (end ≡ NoMemory))
    refused_run none (Ran over) e = absurd (none (has_program (Ran over) e))
    refused_run none WriteFault e = absurd (none (has_program WriteFault e))
    refused_run none ReadFault e = inr (inl refl)
    refused_run none (Refused reason) e = inl (reason, refl, e.1 text is)
    refused_run none NoMemory e = inr (inr refl)
    refused_run none Made e = absurd e
    refused_run none Words e = absurd e
    refused_run none (BadSchedule bad) e = absurd e
    refused_run none (BadEntry number) e = absurd e
    refused_run none (BadNumber count) e = absurd e
    refused_run none (BadImage fault) e = absurd e

    pub complete_run : HasProgram text → (Faulted call.host_before call.host_after → ⊥) → (Faulted call.out_before call.out_after → ⊥) → (end : End) → EndsRun job call end
        → ((over : Over) × (end ≡ Ran over)) ⊎ (end ≡ NoMemory)
    complete_run has calm calm' (Ran over) e = inl (over, refl)
    complete_run has calm calm' WriteFault e = absurd (calm' e.2.run.ran.2)
    complete_run has calm calm' ReadFault e = absurd (neither e.0 calm (λ m. not_missing call.told text job.file is m))
    complete_run has calm calm' (Refused reason) e = absurd (never_both text has.0 reason has.1 has.2 (e.1 text is))
    complete_run has calm calm' NoMemory e = inr refl
    complete_run has calm calm' Made e = absurd e
    complete_run has calm calm' Words e = absurd e
    complete_run has calm calm' (BadSchedule bad) e = absurd e
    complete_run has calm calm' (BadEntry number) e = absurd e
    complete_run has calm calm' (BadNumber count) e = absurd e
    complete_run has calm calm' (BadImage fault) e = absurd e
