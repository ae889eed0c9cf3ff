-- From why a call ends as it does to which end each cause has.
use Rattle.std.proofs.Common.{◌≡◌, ℕ, ◌<◌, ◌≤◌, List, length, Bool, true, false, cond, Option, Some, None, Err, refl, sym, ap, ◌∙◌, subst, arith, inl, inr}
use Rattle.std.specs.Prelude.{◌⊎◌, IsSome}
use Rattle.al_base.specs.declared.over.Over.{Over}
use Rattle.al_host.specs.Outside.{Faulted}
use Rattle.al_words.specs.declared.job.Mode.{Mode}
use Rattle.al_words.specs.declared.job.Mode.TheVariants.{Run, Replay, Recorded, Build, Exec, Check, Sample, Race, Step, Link}
use Rattle.al_words.specs.declared.job.Job.{Job}
use Rattle.rv_isa.specs.declared.image.Contents.{Contents}
use Rattle.rv_image.specs.declared.fault.ImageFault.{ImageFault}
use Rattle.rv_image.specs.Spelling.{IsImage}
use Rattle.rv_image.specs.Reading.{reading}
use Rattle.rv_image.proofs.Again.{image_again}
use Rattle.al_event.specs.declared.entry.Entry.{Entry}
use Rattle.al_trace.specs.Schedule.{IsSchedule}
use Rattle.al_typed.specs.declared.program.Program.{Program}
use Rattle.al_typed.specs.Measures.{IsWithin}
use Rattle.al_meaning.specs.Meaning.{run}
use Rattle.al_show.specs.Walks.{IsRefused as IsEntryRefused}
use Rattle.al_front.specs.Accepted.{IsAccepted, IsRefused}
use Rattle.al_front.specs.declared.refused.Refused.{Refused as Reason}
use Rattle.alef_texts.specs.Call.{Call, LacksText, text_in}
use Rattle.alef_run.specs.BuildMode.{EndsBuild}
use Rattle.alef_run.specs.RecordMode.{EndsRecord}
use Rattle.alef_run.specs.ReplayMode.{EndsReplay}
use Rattle.alef_run.specs.RunMode.{EndsRun}
use Rattle.alef_run.specs.SampleMode.{EndsSample}
use Rattle.alef_run.specs.ExecMode.{EndsExec, RanImage}
use Rattle.alef_texts.specs.CheckMode.{HasProgram, EndsCheck}
use Rattle.alef_texts.specs.Load.{IsBadSchedule}
use Rattle.alef_run.specs.Meant.{EndsAsMeant}
use Rattle.alef_texts.specs.StepMode.{EndsStep, bytes_of_region, first_of}
use Rattle.alef_texts.specs.declared.report.ScheduleFault.{ScheduleFault}
use Rattle.alef_run.specs.Modes.{EndsIdle, EndsIn, EndsBy, is_built, built}
use Rattle.alef_texts.specs.declared.report.End.{End}
use Rattle.alef_texts.specs.declared.report.End.TheVariants.{Ran, Made, Words, ReadFault, Refused, BadImage, BadSchedule, BadEntry, BadNumber, WriteFault, NoMemory}
use Rattle.alef_run.proofs.Builds.{missing_build, host_build, out_build, refused_build, complete_build}
use Rattle.alef_texts.proofs.Checks.{missing_check, host_check, out_check, complete_check, refused_check}
use Rattle.alef_run.proofs.Meanings.{run_as_meant}
use Rattle.alef_run.proofs.Records.{missing_record, host_record, out_record}
use Rattle.alef_run.proofs.Replays.{missing_replay, host_replay, out_replay}
use Rattle.alef_run.proofs.Samples.{host_sample, out_sample}
use Rattle.alef_run.proofs.Runs.{missing_run, host_run, out_run, refused_run, complete_run}
use Rattle.alef_texts.proofs.Steps.{missing_step, host_step, out_step, refused_step, missing_schedule_step, bad_schedule_step, bad_number_step, bad_entry_step, complete_step}
use Rattle.alef_texts.proofs.Told.{neither, not_missing}

-- ---- the job of the words

-- a job of a mode that is built
pub job_was : (o : Option Job) (job : Job) → built o ≡ Some job → o ≡ Some job
job_was None job e = absurd (cc)
job_was (Some j) job e = on (is_built j.mode) e
  where
    on : (b : Bool) → cond b (Some j) None ≡ Some job → Some j ≡ Some job
    on true e = e
    on false e = absurd (cc)

job_built : (o : Option Job) (job : Job) → built o ≡ Some job → is_built job.mode ≡ true
job_built None job e = absurd (cc)
job_built (Some j) job e = on (is_built j.mode) refl e
  where
    on : (b : Bool) → is_built j.mode ≡ b → cond b (Some j) None ≡ Some job → is_built job.mode ≡ true
    on true is e = let same : j ≡ job = cc in ap (λ (j : Job). is_built j.mode) (sym same) ∙ is
    on false is e = absurd (cc)

module _ (call : Call) where
  -- what follows from each way to end follows from the end
  by_mode : (A : Type 0) (end : End) (mode : Mode) (job : Job) → (EndsIdle call end → A) → (EndsRun job call end → A) → (EndsBuild job.file call end → A) → (EndsExec job call end → A) → (EndsCheck job.file call end → A) → (EndsStep job call end → A)
      → (EndsReplay job call end → A) → (EndsRecord job call end → A) → (EndsSample job call end → A) → EndsIn mode job call end → A
  by_mode A end Run job idle run build exec check step replay rec sample e = run e
  by_mode A end Exec job idle run build exec check step replay rec sample e = exec e
  by_mode A end Check job idle run build exec check step replay rec sample e = check e
  by_mode A end Replay job idle run build exec check step replay rec sample e = replay e
  by_mode A end Recorded job idle run build exec check step replay rec sample e = rec e
  by_mode A end Build job idle run build exec check step replay rec sample e = build e
  by_mode A end Sample job idle run build exec check step replay rec sample e = sample e
  by_mode A end Race job idle run build exec check step replay rec sample e = idle e
  by_mode A end Step job idle run build exec check step replay rec sample e = step e
  by_mode A end Link job idle run build exec check step replay rec sample e = idle e

  by_job : (A : Type 0) (end : End) (o : Option Job) → (EndsIdle call end → A) → ((job : Job) → EndsRun job call end → A) → ((job : Job) → EndsBuild job.file call end → A) → ((job : Job) → EndsExec job call end → A) → ((job : Job) → EndsCheck job.file call end → A) → ((job : Job) → EndsStep job call end → A)
      → ((job : Job) → EndsReplay job call end → A) → ((job : Job) → EndsRecord job call end → A) → ((job : Job) → EndsSample job call end → A) → EndsBy o call end → A
  by_job A end None idle run build exec check step replay rec sample e = idle e
  by_job A end (Some job) idle run build exec check step replay rec sample e =
      by_mode A end job.mode job idle (run job) (build job) (exec job) (check job) (step job) (replay job) (rec job) (sample job) e

  ends_in : (end : End) (o : Option Job) (job : Job) → EndsBy o call end → built o ≡ Some job → EndsIn job.mode job call end
  ends_in end o job e is = let P : Option Job → Type 0 = λ o. EndsBy o call end in subst P (job_was o job is) e

  pub ends_run : (end : End) (o : Option Job) (job : Job) → EndsBy o call end → built o ≡ Some job → job.mode ≡ Run → EndsRun job call end
  ends_run end o job e is mode = let P : Mode → Type 0 = λ mode. EndsIn mode job call end in subst P mode (ends_in end o job e is)

  pub ends_build : (end : End) (o : Option Job) (job : Job) → EndsBy o call end → built o ≡ Some job → job.mode ≡ Build → EndsBuild job.file call end
  ends_build end o job e is mode = let P : Mode → Type 0 = λ mode. EndsIn mode job call end in subst P mode (ends_in end o job e is)

  pub ends_exec : (end : End) (o : Option Job) (job : Job) → EndsBy o call end → built o ≡ Some job → job.mode ≡ Exec → EndsExec job call end
  ends_exec end o job e is mode = let P : Mode → Type 0 = λ mode. EndsIn mode job call end in subst P mode (ends_in end o job e is)

  pub ends_check : (end : End) (o : Option Job) (job : Job) → EndsBy o call end → built o ≡ Some job → job.mode ≡ Check → EndsCheck job.file call end
  ends_check end o job e is mode = let P : Mode → Type 0 = λ mode. EndsIn mode job call end in subst P mode (ends_in end o job e is)

  pub ends_replay : (end : End) (o : Option Job) (job : Job) → EndsBy o call end → built o ≡ Some job → job.mode ≡ Replay → EndsReplay job call end
  ends_replay end o job e is mode = let P : Mode → Type 0 = λ mode. EndsIn mode job call end in subst P mode (ends_in end o job e is)

  pub ends_record : (end : End) (o : Option Job) (job : Job) → EndsBy o call end → built o ≡ Some job → job.mode ≡ Recorded → EndsRecord job call end
  ends_record end o job e is mode = let P : Mode → Type 0 = λ mode. EndsIn mode job call end in subst P mode (ends_in end o job e is)

  pub ends_sample : (end : End) (o : Option Job) (job : Job) → EndsBy o call end → built o ≡ Some job → job.mode ≡ Sample → EndsSample job call end
  ends_sample end o job e is mode = let P : Mode → Type 0 = λ mode. EndsIn mode job call end in subst P mode (ends_in end o job e is)

  pub ends_step : (end : End) (o : Option Job) (job : Job) → EndsBy o call end → built o ≡ Some job → job.mode ≡ Step → EndsStep job call end
  ends_step end o job e is mode = let P : Mode → Type 0 = λ mode. EndsIn mode job call end in subst P mode (ends_in end o job e is)

  -- ---- words

  words_in : (end : End) (mode : Mode) (job : Job) → EndsIn mode job call end → end ≡ Words → is_built mode ≡ false
  words_in end Run job e is = absurd (let P : End → Type 0 = EndsRun job call in subst P is e)
  words_in end Exec job e is = absurd (let P : End → Type 0 = EndsExec job call in subst P is e)
  words_in end Check job e is = absurd (let P : End → Type 0 = EndsCheck job.file call in subst P is e)
  words_in end Replay job e is = absurd (let P : End → Type 0 = EndsReplay job call in subst P is e)
  words_in end Recorded job e is = absurd (let P : End → Type 0 = EndsRecord job call in subst P is e)
  words_in end Build job e is = absurd (let P : End → Type 0 = EndsBuild job.file call in subst P is e)
  words_in end Sample job e is = absurd (let P : End → Type 0 = EndsSample job call in subst P is e)
  words_in end Race job e is = refl
  words_in end Step job e is = absurd (let P : End → Type 0 = EndsStep job call in subst P is e)
  words_in end Link job e is = refl

  pub words_cause : (end : End) (o : Option Job) → EndsBy o call end → end ≡ Words → built o ≡ None
  words_cause end None e is = refl
  words_cause end (Some job) e is = ap (λ (b : Bool). cond b (Some job) None) (words_in end job.mode job e is)

  idle_in : (end : End) (mode : Mode) (job : Job) → EndsIn mode job call end → cond (is_built mode) (Some job) None ≡ None → (end ≡ Words) ⊎ (end ≡ NoMemory)
  idle_in end Run job e is = absurd (cc)
  idle_in end Exec job e is = absurd (cc)
  idle_in end Check job e is = absurd (cc)
  idle_in end Replay job e is = absurd (cc)
  idle_in end Recorded job e is = absurd (cc)
  idle_in end Build job e is = absurd (cc)
  idle_in end Sample job e is = absurd (cc)
  idle_in end Race job e is = e.0
  idle_in end Step job e is = absurd (cc)
  idle_in end Link job e is = e.0

  pub words_end : (end : End) (o : Option Job) → EndsBy o call end → built o ≡ None → (end ≡ Words) ⊎ (end ≡ NoMemory)
  words_end end None e is = e.0
  words_end end (Some job) e is = idle_in end job.mode job e is

  -- ---- faults outside

  missing_exec : (job : Job) (end : End) → EndsExec job call end → LacksText call.told job.file → (end ≡ ReadFault) ⊎ (end ≡ NoMemory)
  missing_exec job (Ran over) e m = absurd (e.1.read.found m)
  missing_exec job WriteFault e m = absurd (e.1.read.found m)
  missing_exec job ReadFault e m = inl refl
  missing_exec job (BadImage fault) e m = absurd (e.0.found m)
  missing_exec job NoMemory e m = inr refl
  missing_exec job Made e m = absurd e
  missing_exec job Words e m = absurd e
  missing_exec job (BadSchedule bad) e m = absurd e
  missing_exec job (BadEntry number) e m = absurd e
  missing_exec job (BadNumber count) e m = absurd e
  missing_exec job (Refused reason) e m = absurd e

  missing_in : (end : End) (mode : Mode) (job : Job) → is_built mode ≡ true → (mode ≡ Sample → ⊥) → EndsIn mode job call end → LacksText call.told job.file → (end ≡ ReadFault) ⊎ (end ≡ NoMemory)
  missing_in end Run job is not e m = missing_run job call end e m
  missing_in end Exec job is not e m = missing_exec job end e m
  missing_in end Check job is not e m = missing_check job.file call end e m
  missing_in end Replay job is not e m = missing_replay job call end e m
  missing_in end Recorded job is not e m = missing_record job call end e m
  missing_in end Build job is not e m = missing_build job.file call end e m
  missing_in end Sample job is not e m = absurd (not refl)
  missing_in end Race job is not e m = absurd (cc)
  missing_in end Step job is not e m = missing_step job call end e m
  missing_in end Link job is not e m = absurd (cc)

  pub missing_end : (end : End) (o : Option Job) (job : Job) → EndsBy o call end → built o ≡ Some job → (job.mode ≡ Sample → ⊥) → LacksText call.told job.file → (end ≡ ReadFault) ⊎ (end ≡ NoMemory)
  missing_end end o job e is not m = missing_in end job.mode job (job_built o job is) not (ends_in end o job e is) m

  host_exec : (job : Job) (end : End) → EndsExec job call end → call.host_before < call.host_after → end ≡ ReadFault
  host_exec job (Ran over) e rose = let calm = e.1.read.calm in absurd (omega (arith, calm, rose))
  host_exec job WriteFault e rose = let calm = e.1.read.calm in absurd (omega (arith, calm, rose))
  host_exec job ReadFault e rose = refl
  host_exec job (BadImage fault) e rose = let calm = e.0.calm in absurd (omega (arith, calm, rose))
  host_exec job NoMemory e rose = let calm = e.0 in absurd (omega (arith, calm, rose))
  host_exec job Made e rose = absurd e
  host_exec job Words e rose = absurd e
  host_exec job (BadSchedule bad) e rose = absurd e
  host_exec job (BadEntry number) e rose = absurd e
  host_exec job (BadNumber count) e rose = absurd e
  host_exec job (Refused reason) e rose = absurd e

  pub host_end : (end : End) (o : Option Job) → EndsBy o call end → call.host_before < call.host_after → end ≡ ReadFault
  host_end end o e rose =
      by_job (end ≡ ReadFault) end o (λ i. let calm = i.1.calm in absurd (omega (arith, calm, rose))) (λ job r. host_run job call end r rose) (λ job b. host_build job.file call end b rose) (λ job x. host_exec job end x rose)
      (λ job k. host_check job.file call end k rose) (λ job s. host_step job call end s rose) (λ job r. host_replay job call end r rose) (λ job r. host_record job call end r rose)
      (λ job s. host_sample job call end s rose) e

  out_exec : (job : Job) (end : End) → EndsExec job call end → call.out_before < call.out_after → end ≡ WriteFault
  out_exec job (Ran over) e rose = let calm = e.1.run.ran.2 in absurd (omega (arith, calm, rose))
  out_exec job WriteFault e rose = refl
  out_exec job ReadFault e rose = let calm = e.1.calm in absurd (omega (arith, calm, rose))
  out_exec job (BadImage fault) e rose = let calm = e.2.calm in absurd (omega (arith, calm, rose))
  out_exec job NoMemory e rose = absurd (neither e.1 (λ n. let calm = n.calm in omega (arith, calm, rose)) (λ r. let calm = r.1.run.ran.1 in omega (arith, calm, rose)))
  out_exec job Made e rose = absurd e
  out_exec job Words e rose = absurd e
  out_exec job (BadSchedule bad) e rose = absurd e
  out_exec job (BadEntry number) e rose = absurd e
  out_exec job (BadNumber count) e rose = absurd e
  out_exec job (Refused reason) e rose = absurd e

  pub out_end : (end : End) (o : Option Job) → EndsBy o call end → call.out_before < call.out_after → end ≡ WriteFault
  out_end end o e rose =
      by_job (end ≡ WriteFault) end o (λ i. let calm = i.2.calm in absurd (omega (arith, calm, rose))) (λ job r. out_run job call end r rose) (λ job b. out_build job.file call end b rose) (λ job x. out_exec job end x rose)
      (λ job k. out_check job.file call end k rose) (λ job s. out_step job call end s rose) (λ job r. out_replay job call end r rose) (λ job r. out_record job call end r rose)
      (λ job s. out_sample job call end s rose) e

  -- ---- texts and images

  module _ (job : Job) (text : List ℕ) (is : text_in call.told job.file ≡ Some text) where
    no_image : (end : End) (fault : ImageFault) → RanImage job call end → reading text ≡ Err fault → ⊥
    no_image end fault e r = let again = image_again text e.0 (e.1.text text is) in cc

    refused_exec : (fault : ImageFault) (end : End) → EndsExec job call end → reading text ≡ Err fault → (end ≡ BadImage fault) ⊎ ((end ≡ ReadFault) ⊎ (end ≡ NoMemory))
    refused_exec fault (Ran over) e r = absurd (no_image (Ran over) fault e r)
    refused_exec fault WriteFault e r = absurd (no_image WriteFault fault e r)
    refused_exec fault ReadFault e r = inr (inl refl)
    refused_exec fault (BadImage other) e r = let s = e.1 text is in let same : other ≡ fault = cc in inl (ap BadImage same)
    refused_exec fault NoMemory e r = inr (inr refl)
    refused_exec fault Made e r = absurd e
    refused_exec fault Words e r = absurd e
    refused_exec fault (BadSchedule bad) e r = absurd e
    refused_exec fault (BadEntry number) e r = absurd e
    refused_exec fault (BadNumber count) e r = absurd e
    refused_exec fault (Refused reason) e r = absurd e

    complete_exec : (image : Contents) (end : End) → EndsExec job call end → IsImage text image → (Faulted call.host_before call.host_after → ⊥) → (Faulted call.out_before call.out_after → ⊥)
        → ((over : Over) × (end ≡ Ran over)) ⊎ (end ≡ NoMemory)
    complete_exec image (Ran over) e f calm calm' = inl (over, refl)
    complete_exec image WriteFault e f calm calm' = absurd (calm' e.1.run.ran.2)
    complete_exec image ReadFault e f calm calm' = absurd (neither e.0 calm (λ m. not_missing call.told text job.file is m))
    complete_exec image (BadImage fault) e f calm calm' = absurd (let s = e.1 text is in let again = image_again text image f in cc)
    complete_exec image NoMemory e f calm calm' = inr refl
    complete_exec image Made e f calm calm' = absurd e
    complete_exec image Words e f calm calm' = absurd e
    complete_exec image (BadSchedule bad) e f calm calm' = absurd e
    complete_exec image (BadEntry number) e f calm calm' = absurd e
    complete_exec image (BadNumber count) e f calm calm' = absurd e
    complete_exec image (Refused reason) e f calm calm' = absurd e

  pub refused_end : (end : End) (o : Option Job) (job : Job) (text : List ℕ) → EndsBy o call end → built o ≡ Some job → job.mode ≡ Run → text_in call.told job.file ≡ Some text → (HasProgram text → ⊥)
      → ((r : Reason) × (end ≡ Refused r) × IsRefused text r) ⊎ ((end ≡ ReadFault) ⊎ (end ≡ NoMemory))
  refused_end end o job text e b mode is none_has = refused_run job call text is none_has end (ends_run end o job e b mode)

  pub complete_end : (end : End) (o : Option Job) (job : Job) (text : List ℕ) → EndsBy o call end → built o ≡ Some job → job.mode ≡ Run → text_in call.told job.file ≡ Some text → HasProgram text
      → (Faulted call.host_before call.host_after → ⊥) → (Faulted call.out_before call.out_after → ⊥) → ((over : Over) × (end ≡ Ran over)) ⊎ (end ≡ NoMemory)
  complete_end end o job text e b mode is has calm calm' = complete_run job call text is has calm calm' end (ends_run end o job e b mode)

  pub meant_end : (end : End) (o : Option Job) (job : Job) (text : List ℕ) (p : Program) → job.region ≤ 256 → EndsBy o call end → built o ≡ Some job → job.mode ≡ Run → text_in call.told job.file ≡ Some text
      → IsAccepted text p → IsWithin p → EndsAsMeant p job call end
  meant_end end o job text p few e b mode is accepted within = run_as_meant job call few text is p accepted within end (ends_run end o job e b mode)

  pub unbuilt_end : (end : End) (o : Option Job) (job : Job) (text : List ℕ) → EndsBy o call end → built o ≡ Some job → job.mode ≡ Build → text_in call.told job.file ≡ Some text → (HasProgram text → ⊥)
      → ((r : Reason) × (end ≡ Refused r) × IsRefused text r) ⊎ ((end ≡ ReadFault) ⊎ (end ≡ NoMemory))
  unbuilt_end end o job text e b mode is none_has = refused_build job.file call text is none_has end (ends_build end o job e b mode)

  pub built_end : (end : End) (o : Option Job) (job : Job) (text : List ℕ) → EndsBy o call end → built o ≡ Some job → job.mode ≡ Build → text_in call.told job.file ≡ Some text → HasProgram text
      → (Faulted call.host_before call.host_after → ⊥) → (Faulted call.out_before call.out_after → ⊥) → (end ≡ Made) ⊎ (end ≡ NoMemory)
  built_end end o job text e b mode is has calm calm' = complete_build job.file call text is has calm calm' end (ends_build end o job e b mode)

  pub no_image_end : (end : End) (o : Option Job) (job : Job) (text : List ℕ) (fault : ImageFault) → EndsBy o call end → built o ≡ Some job → job.mode ≡ Exec → text_in call.told job.file ≡ Some text → reading text ≡ Err fault
      → (end ≡ BadImage fault) ⊎ ((end ≡ ReadFault) ⊎ (end ≡ NoMemory))
  no_image_end end o job text fault e b mode is r = refused_exec job text is fault end (ends_exec end o job e b mode) r

  pub image_end : (end : End) (o : Option Job) (job : Job) (text : List ℕ) (image : Contents) → EndsBy o call end → built o ≡ Some job → job.mode ≡ Exec → text_in call.told job.file ≡ Some text → IsImage text image
      → (Faulted call.host_before call.host_after → ⊥) → (Faulted call.out_before call.out_after → ⊥) → ((over : Over) × (end ≡ Ran over)) ⊎ (end ≡ NoMemory)
  image_end end o job text image e b mode is f calm calm' = complete_exec job text is image end (ends_exec end o job e b mode) f calm calm'

  pub text_end : (end : End) (o : Option Job) (job : Job) (text : List ℕ) → EndsBy o call end → built o ≡ Some job → job.mode ≡ Check → text_in call.told job.file ≡ Some text → HasProgram text
      → (Faulted call.host_before call.host_after → ⊥) → (end ≡ Made) ⊎ (end ≡ NoMemory)
  text_end end o job text e b mode is has calm = complete_check job.file call text is end (ends_check end o job e b mode) has calm

  pub no_text_end : (end : End) (o : Option Job) (job : Job) (text : List ℕ) → EndsBy o call end → built o ≡ Some job → job.mode ≡ Check → text_in call.told job.file ≡ Some text → (HasProgram text → ⊥)
      → ((r : Reason) × (end ≡ Refused r) × IsRefused text r) ⊎ ((end ≡ ReadFault) ⊎ (end ≡ NoMemory))
  no_text_end end o job text e b mode is none_has = refused_check job.file call text is end (ends_check end o job e b mode) none_has

  -- ---- ways to end

  pub idle_end : (end : End) (o : Option Job) → EndsIdle call end → built o ≡ None → EndsBy o call end
  idle_end end None i is = i
  idle_end end (Some job) i is = on job.mode is
    where
      on : (mode : Mode) → cond (is_built mode) (Some job) None ≡ None → EndsIn mode job call end
      on Run is = absurd (cc)
      on Exec is = absurd (cc)
      on Check is = absurd (cc)
      on Replay is = absurd (cc)
      on Recorded is = absurd (cc)
      on Build is = absurd (cc)
      on Sample is = absurd (cc)
      on Race is = i
      on Step is = absurd (cc)
      on Link is = i

  -- want of memory before anything was read
  pub memory_end : (o : Option Job) → EndsIdle call NoMemory → EndsBy o call NoMemory
  memory_end None i = i
  memory_end (Some job) i = on job.mode
    where
      on : (mode : Mode) → EndsIn mode job call NoMemory
      on Run = (i.1.calm, inl i.2)
      on Exec = (i.1.calm, inl i.2)
      on Check = (i.1.calm, i.2)
      on Replay = (i.1.calm, inl i.2)
      on Recorded = ((i.1.calm, inl (record { schedule = i.2.schedule; work = i.2.work; image = i.2.image; got = refl; calm = refl })), record { got = i.2.got; calm = i.2.calm })
      on Build = (i.1.calm, i.2)
      on Sample = (inl i.2, i.1)
      on Race = i
      on Step = (i.1.calm, i.2)
      on Link = i

  pub mode_end : (end : End) (o : Option Job) (job : Job) → o ≡ Some job → EndsIn job.mode job call end → EndsBy o call end
  mode_end end o job is e = let P : Option Job → Type 0 = λ o. EndsBy o call end in subst P (sym is) e

  -- the modes that are yet to come
  pub rest_in : (end : End) (mode : Mode) (job : Job) → (mode ≡ Run → ⊥) → (mode ≡ Replay → ⊥) → (mode ≡ Recorded → ⊥) → (mode ≡ Sample → ⊥) → (mode ≡ Build → ⊥) → (mode ≡ Exec → ⊥) → (mode ≡ Check → ⊥) → (mode ≡ Step → ⊥)
      → EndsIdle call end → EndsIn mode job call end
  rest_in end Run job run replay rec sample build exec check step i = absurd (run refl)
  rest_in end Replay job run replay rec sample build exec check step i = absurd (replay refl)
  rest_in end Recorded job run replay rec sample build exec check step i = absurd (rec refl)
  rest_in end Sample job run replay rec sample build exec check step i = absurd (sample refl)
  rest_in end Build job run replay rec sample build exec check step i = absurd (build refl)
  rest_in end Exec job run replay rec sample build exec check step i = absurd (exec refl)
  rest_in end Check job run replay rec sample build exec check step i = absurd (check refl)
  rest_in end Step job run replay rec sample build exec check step i = absurd (step refl)
  rest_in end Race job run replay rec sample build exec check step i = i
  rest_in end Link job run replay rec sample build exec check step i = i

  pub run_end : (end : End) (o : Option Job) (job : Job) → o ≡ Some job → job.mode ≡ Run → EndsRun job call end → EndsBy o call end
  run_end end o job is mode e = let M : Mode → Type 0 = λ mode. EndsIn mode job call end in mode_end end o job is (subst M (sym mode) e)

  pub replay_end : (end : End) (o : Option Job) (job : Job) → o ≡ Some job → job.mode ≡ Replay → EndsReplay job call end → EndsBy o call end
  replay_end end o job is mode e = let M : Mode → Type 0 = λ mode. EndsIn mode job call end in mode_end end o job is (subst M (sym mode) e)

  pub record_end : (end : End) (o : Option Job) (job : Job) → o ≡ Some job → job.mode ≡ Recorded → EndsRecord job call end → EndsBy o call end
  record_end end o job is mode e = let M : Mode → Type 0 = λ mode. EndsIn mode job call end in mode_end end o job is (subst M (sym mode) e)

  pub sample_end : (end : End) (o : Option Job) (job : Job) → o ≡ Some job → job.mode ≡ Sample → EndsSample job call end → EndsBy o call end
  sample_end end o job is mode e = let M : Mode → Type 0 = λ mode. EndsIn mode job call end in mode_end end o job is (subst M (sym mode) e)

  pub build_end : (end : End) (o : Option Job) (job : Job) (file : List ℕ) → o ≡ Some job → job.mode ≡ Build → file ≡ job.file → EndsBuild file call end → EndsBy o call end
  build_end end o job file is mode named e =
      let F : List ℕ → Type 0 = λ file. EndsBuild file call end in
      let M : Mode → Type 0 = λ mode. EndsIn mode job call end in
      mode_end end o job is (subst M (sym mode) (subst F named e))

  pub check_end : (end : End) (o : Option Job) (job : Job) (file : List ℕ) → o ≡ Some job → job.mode ≡ Check → file ≡ job.file → EndsCheck file call end → EndsBy o call end
  check_end end o job file is mode named e =
      let F : List ℕ → Type 0 = λ file. EndsCheck file call end in
      let M : Mode → Type 0 = λ mode. EndsIn mode job call end in
      mode_end end o job is (subst M (sym mode) (subst F named e))

  -- ---- stepping

  pub step_refused_end : (end : End) (o : Option Job) (job : Job) (text : List ℕ) → EndsBy o call end → built o ≡ Some job → job.mode ≡ Step → text_in call.told job.file ≡ Some text → (HasProgram text → ⊥)
      → ((r : Reason) × (end ≡ Refused r) × IsRefused text r) ⊎ ((end ≡ ReadFault) ⊎ (end ≡ NoMemory))
  step_refused_end end o job text e b mode is none_has = refused_step job call text is none_has end (ends_step end o job e b mode)

  pub missing_schedule_end : (end : End) (o : Option Job) (job : Job) (text : List ℕ) → EndsBy o call end → built o ≡ Some job → job.mode ≡ Step → text_in call.told job.file ≡ Some text → HasProgram text
      → LacksText call.told job.schedule → (end ≡ ReadFault) ⊎ (end ≡ NoMemory)
  missing_schedule_end end o job text e b mode is has m = missing_schedule_step job call text is has m end (ends_step end o job e b mode)

  pub bad_schedule_end : (end : End) (o : Option Job) (job : Job) (text schedule : List ℕ) (fault : ScheduleFault) → EndsBy o call end → built o ≡ Some job → job.mode ≡ Step → text_in call.told job.file ≡ Some text → HasProgram text
      → text_in call.told job.schedule ≡ Some schedule → IsBadSchedule fault schedule → (end ≡ BadSchedule fault) ⊎ ((end ≡ ReadFault) ⊎ (end ≡ NoMemory))
  bad_schedule_end end o job text schedule fault e b mode is has named bad = bad_schedule_step job call text is has.0 has.1 has.2 schedule named fault bad end (ends_step end o job e b mode)

  pub bad_number_end : (end : End) (o : Option Job) (job : Job) (text schedule : List ℕ) (h : List Entry) → EndsBy o call end → built o ≡ Some job → job.mode ≡ Step → text_in call.told job.file ≡ Some text → HasProgram text
      → text_in call.told job.schedule ≡ Some schedule → IsSchedule schedule h → length h < job.number → (end ≡ BadNumber (length h)) ⊎ ((end ≡ ReadFault) ⊎ (end ≡ NoMemory))
  bad_number_end end o job text schedule h e b mode is has named entries few = bad_number_step job call text is has.0 has.1 has.2 schedule named h entries few end (ends_step end o job e b mode)

  pub bad_entry_end : (end : End) (o : Option Job) (job : Job) (text schedule : List ℕ) (p : Program) (h : List Entry) (k : ℕ) → EndsBy o call end → built o ≡ Some job → job.mode ≡ Step → text_in call.told job.file ≡ Some text
      → IsAccepted text p → IsWithin p → text_in call.told job.schedule ≡ Some schedule → IsSchedule schedule h → job.number ≤ length h → IsEntryRefused p (bytes_of_region job) (first_of job h) k
      → (end ≡ BadEntry k) ⊎ ((end ≡ ReadFault) ⊎ (end ≡ NoMemory))
  bad_entry_end end o job text schedule p h k e b mode is accepted within named entries enough refused =
      bad_entry_step job call text is p accepted within schedule named h entries enough k refused end (ends_step end o job e b mode)

  pub stepped_end : (end : End) (o : Option Job) (job : Job) (text schedule : List ℕ) (p : Program) (h : List Entry) → EndsBy o call end → built o ≡ Some job → job.mode ≡ Step → text_in call.told job.file ≡ Some text
      → IsAccepted text p → IsWithin p → text_in call.told job.schedule ≡ Some schedule → IsSchedule schedule h → job.number ≤ length h → IsSome (run p (bytes_of_region job) (first_of job h))
      → (Faulted call.host_before call.host_after → ⊥) → (Faulted call.out_before call.out_after → ⊥) → (end ≡ Made) ⊎ (end ≡ NoMemory)
  stepped_end end o job text schedule p h e b mode is accepted within named entries enough runs calm calm' =
      complete_step job call text is p accepted within schedule named h entries enough runs calm calm' end (ends_step end o job e b mode)

  pub step_end : (end : End) (o : Option Job) (job : Job) → o ≡ Some job → job.mode ≡ Step → EndsStep job call end → EndsBy o call end
  step_end end o job is mode e = let M : Mode → Type 0 = λ mode. EndsIn mode job call end in mode_end end o job is (subst M (sym mode) e)
