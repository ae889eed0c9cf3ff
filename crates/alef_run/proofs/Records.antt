-- The mode `record`: from what its stages say to why it ends as it does, and to which end each cause has.
use Rattle.std.proofs.Common.{◌≡◌, ℕ, ◌<◌, ◌≤◌, List, Option, Some, refl, sym, subst, arith, inl, inr}
use Rattle.std.specs.Prelude.{◌⊎◌}
use Rattle.al_base.specs.declared.over.Over.{Over}
use Rattle.al_event.specs.declared.entry.Entry.{Entry}
use Rattle.al_host.specs.Outside.{Faulted}
use Rattle.rv_isa.specs.declared.image.Contents.{Contents}
use Rattle.al_words.specs.declared.job.Job.{Job}
use Rattle.al_typed.specs.declared.program.Program.{Program}
use Rattle.al_typed.specs.Measures.{IsWithin}
use Rattle.al_front.specs.Accepted.{IsAccepted, IsRefused}
use Rattle.al_front.specs.declared.refused.Refused.{Refused as Reason}
use Rattle.alef_texts.specs.Call.{Call, LacksText, text_in}
use Rattle.alef_texts.specs.CheckMode.{HasProgram}
use Rattle.alef_texts.specs.declared.report.End.{End}
use Rattle.alef_texts.specs.declared.report.End.TheVariants.{Ran, Made, Words, ReadFault, Refused, BadImage, BadSchedule, BadEntry, BadNumber, WriteFault, NoMemory}
use Rattle.alef_run.specs.Meant.{EndsAsMeant}
use Rattle.alef_run.specs.RecordMode.{unseen, EndsRecord, EndsWriting}
use Rattle.alef_run.specs.RunMode.{EndsRun}
use Rattle.alef_run.proofs.Meanings.{run_as_meant}
use Rattle.alef_run.proofs.Runs.{missing_run, host_run, refused_run, complete_run}

-- nothing has a fault that counts none
never_faulted : Faulted 0 0 → ⊥
never_faulted (inl lt) = omega (arith, lt)
never_faulted (inr is) = cc

module _ (job : Job) (call : Call) where
  -- ---- stages

  -- what the run and the writing of its schedule say together
  pub recorded : (ran end : End) → EndsRun job (unseen call) ran → EndsWriting ran call.schedule end call.got_before call.got_after call.out_before call.out_after → EndsRecord job call end
  recorded (Ran over) end e (inl w) = subst (EndsRecord job call) (sym w.0) (e, w.1, w.2)
  recorded (Ran over) end e (inr w) = subst (EndsRecord job call) (sym w.0) ((over, e), w.1, w.2)
  recorded NoMemory end e w = subst (EndsRecord job call) (sym w.0) (e, record { got = w.1; calm = w.2 })
  recorded ReadFault end e w = subst (EndsRecord job call) (sym w.0) (e, record { got = w.1; calm = w.2 })
  recorded (Refused reason) end e w = subst (EndsRecord job call) (sym w.0) (e, record { got = w.1; calm = w.2 })
  recorded WriteFault end e w = absurd (never_faulted e.2.run.ran.2)
  recorded Made end e w = absurd e
  recorded Words end e w = absurd e
  recorded (BadSchedule bad) end e w = absurd e
  recorded (BadEntry number) end e w = absurd e
  recorded (BadNumber count) end e w = absurd e
  recorded (BadImage fault) end e w = absurd e

  -- the same, where what the run made stands by itself
  pub recorded_from : (s : List Entry) (w : ℕ) (i : Option Contents) → call.schedule ≡ s → call.work ≡ w → call.image ≡ i → (ran end : End) → EndsRun job (record (unseen call) { schedule = s; work = w; image = i }) ran
      → EndsWriting ran s end call.got_before call.got_after call.out_before call.out_after → EndsRecord job call end
  recorded_from s w i schedule work image ran end e writing =
      let S : List Entry → Type 0 = λ s. EndsRun job (record (unseen call) { schedule = s; work = w; image = i }) ran in
      let W : ℕ → Type 0 = λ w. EndsRun job (record (unseen call) { schedule = call.schedule; work = w; image = i }) ran in
      let I : Option Contents → Type 0 = λ i. EndsRun job (record (unseen call) { schedule = call.schedule; work = call.work; image = i }) ran in
      let T : List Entry → Type 0 = λ s. EndsWriting ran s end call.got_before call.got_after call.out_before call.out_after in
      recorded ran end (subst I (sym image) (subst W (sym work) (subst S (sym schedule) e))) (subst T (sym schedule) writing)

  -- ---- causes

  -- the run behind a record
  of_run : (P : End → Type 0) → ((end : End) → EndsRun job (unseen call) end → P end) → ((over : Over) → EndsRun job (unseen call) (Ran over) → P WriteFault) → (end : End) → EndsRecord job call end → P end
  of_run P run fault (Ran over) e = run (Ran over) e.0
  of_run P run fault WriteFault e = fault e.0.0 e.0.1
  of_run P run fault NoMemory e = run NoMemory e.0
  of_run P run fault ReadFault e = run ReadFault e.0
  of_run P run fault (Refused reason) e = run (Refused reason) e.0
  of_run P run fault Made e = absurd e
  of_run P run fault Words e = absurd e
  of_run P run fault (BadSchedule bad) e = absurd e
  of_run P run fault (BadEntry number) e = absurd e
  of_run P run fault (BadNumber count) e = absurd e
  of_run P run fault (BadImage fault') e = absurd e

  pub missing_record : (end : End) → EndsRecord job call end → LacksText call.told job.file → (end ≡ ReadFault) ⊎ (end ≡ NoMemory)
  missing_record end e m =
      of_run (λ (end : End). (end ≡ ReadFault) ⊎ (end ≡ NoMemory)) (λ end r. missing_run job (unseen call) end r m) (λ over r. absurd (r.2.compiled.read.found m)) end e

  pub host_record : (end : End) → EndsRecord job call end → call.host_before < call.host_after → end ≡ ReadFault
  host_record end e rose =
      of_run (λ (end : End). end ≡ ReadFault) (λ end r. host_run job (unseen call) end r rose) (λ over r. let calm = r.2.compiled.read.calm in absurd (omega (arith, calm, rose))) end e

  pub out_record : (end : End) → EndsRecord job call end → call.out_before < call.out_after → end ≡ WriteFault
  out_record (Ran over) e rose = let calm = e.2 in absurd (omega (arith, calm, rose))
  out_record WriteFault e rose = refl
  out_record NoMemory e rose = let calm = e.1.calm in absurd (omega (arith, calm, rose))
  out_record ReadFault e rose = let calm = e.1.calm in absurd (omega (arith, calm, rose))
  out_record (Refused reason) e rose = let calm = e.1.calm in absurd (omega (arith, calm, rose))
  out_record Made e rose = absurd e
  out_record Words e rose = absurd e
  out_record (BadSchedule bad) e rose = absurd e
  out_record (BadEntry number) e rose = absurd e
  out_record (BadNumber count) e rose = absurd e
  out_record (BadImage fault) e rose = absurd e

  module _ (text : List ℕ) (is : text_in call.told job.file ≡ Some text) where
    pub refused_record : (HasProgram text → ⊥) → (end : End) → EndsRecord job call end → ((r : Reason) × (end ≡ Refused r) × IsRefused text r) ⊎ ((end ≡ ReadFault) ⊎ (end ≡ NoMemory))
    refused_record none =
        of_run (λ (end : End). ((r : Reason) × (end ≡ Refused r) × IsRefused text r) ⊎ ((end ≡ ReadFault) ⊎ (end ≡ NoMemory)))
        (refused_run job (unseen call) text is none) (λ over r. absurd (none (r.0, r.2.compiled.text text is, r.2.compiled.within)))

    pub complete_record : HasProgram text → (Faulted call.host_before call.host_after → ⊥) → (Faulted call.out_before call.out_after → ⊥) → (end : End) → EndsRecord job call end
        → ((over : Over) × (end ≡ Ran over)) ⊎ (end ≡ NoMemory)
    complete_record has calm calm' WriteFault e = absurd (calm' e.2)
    complete_record has calm calm' (Ran over) e = inl (over, refl)
    complete_record has calm calm' NoMemory e = inr refl
    complete_record has calm calm' ReadFault e = complete_run job (unseen call) text is has calm never_faulted ReadFault e.0
    complete_record has calm calm' (Refused reason) e = complete_run job (unseen call) text is has calm never_faulted (Refused reason) e.0
    complete_record has calm calm' Made e = absurd e
    complete_record has calm calm' Words e = absurd e
    complete_record has calm calm' (BadSchedule bad) e = absurd e
    complete_record has calm calm' (BadEntry number) e = absurd e
    complete_record has calm calm' (BadNumber count) e = absurd e
    complete_record has calm calm' (BadImage fault) e = absurd e

    pub record_as_meant : job.region ≤ 256 → (p : Program) → IsAccepted text p → IsWithin p → (end : End) → EndsRecord job call end → EndsAsMeant p job (unseen call) end
    record_as_meant few p accepted within =
        of_run (EndsAsMeant p job (unseen call)) (run_as_meant job (unseen call) few text is p accepted within)
        (λ over r. let m = run_as_meant job (unseen call) few text is p accepted within (Ran over) r in (m.0, m.1, tt))
