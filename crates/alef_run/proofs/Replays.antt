-- The mode `replay`: from what its stages say to why it ends as it does, and to which end each cause has.
use Rattle.std.proofs.Common.{◌≡◌, ℕ, ◌<◌, List, length, Option, Some, refl, sym, ap, ◌∙◌, subst, arith, inl, inr}
use Rattle.std.specs.Prelude.{◌⊎◌}
use Rattle.al_event.specs.declared.entry.Entry.{Entry}
use Rattle.al_host.specs.Outside.{Content, Faulted}
use Rattle.al_trace.specs.Schedule.{IsSchedule}
use Rattle.al_words.specs.declared.job.Job.{Job}
use Rattle.rv_isa.specs.declared.image.Contents.{Contents}
use Rattle.al_typed.specs.declared.program.Program.{Program}
use Rattle.al_typed.specs.Measures.{IsWithin}
use Rattle.al_front.specs.Accepted.{IsAccepted, IsRefused}
use Rattle.al_front.specs.declared.refused.Refused.{Refused as Reason}
use Rattle.al_front.proofs.Laws.{one_program, never_both}
use Rattle.al_core.specs.History.{History, opening, work_of}
use Rattle.alef_texts.specs.Call.{Call, DidNothing, LacksText, text_in}
use Rattle.alef_texts.specs.CheckMode.{HasProgram}
use Rattle.alef_texts.specs.Load.{KeepsTexts, LacksSchedule, IsScheduleRead, IsBadSchedule}
use Rattle.alef_texts.specs.StepMode.{EndsStep, IsProgramRead, HasText, HasBoth}
use Rattle.alef_texts.specs.declared.report.ScheduleFault.{ScheduleFault}
use Rattle.alef_texts.specs.declared.report.End.{End}
use Rattle.alef_texts.specs.declared.report.End.TheVariants.{Ran, Made, Words, ReadFault, Refused, BadImage, BadSchedule, BadEntry, BadNumber, WriteFault, NoMemory}
use Rattle.alef_texts.proofs.Steps.{never_both_ways, one_fault}
use Rattle.alef_texts.proofs.Stepping.{no_schedule, both}
use Rattle.alef_texts.proofs.Told.{neither, not_missing}
use Rattle.alef_run.specs.Along.{WentTo}
use Rattle.alef_run.specs.Compiling.{IsImageOf, LacksProgram}
use Rattle.alef_run.specs.ReplayMode.{DidGoAlong, EndsAlong, DidReplay, Replayed, EndsReplay}
use Rattle.alef_run.specs.Rounds.{history_along, IsLegal}
use Rattle.alef_run.proofs.Between.{work_along}

-- ---- the run along a schedule

-- what the stages of the run of an image along a schedule say together
pub image_went : (job : Job) (image : Contents) (s : List Entry) (call : Call) (end : End) (w h : History) → w ≡ opening image job.region (length s) → h.image ≡ w.image → h.region ≡ w.region
    → IsLegal 64 (history_along w.image w.region (length s) h.entries)
    → WentTo (history_along w.image w.region (length s) h.entries) s end call.got_before call.got_after call.out_before call.out_after
    → call.schedule ≡ h.entries → call.work ≡ work_of h → call.image ≡ Some h.image → EndsAlong job image s call end
image_went job image s call end w h e i r legal went schedule work is =
    let ei : w.image ≡ image = ap (λ (h : History). h.image) e in
    let er : w.region ≡ job.region = ap (λ (h : History). h.region) e in
    let L : Contents → ℕ → List Entry → Type 0 = λ image region entries. IsLegal 64 (history_along image region (length s) entries) in
    let R : Contents → ℕ → List Entry → Type 0 = λ image region entries. WentTo (history_along image region (length s) entries) s end call.got_before call.got_after call.out_before call.out_after in
    let legal' : L image job.region h.entries = subst (λ (region : ℕ). L image region h.entries) er (subst (λ (image : Contents). L image w.region h.entries) ei legal) in
    let went' : R image job.region h.entries = subst (λ (region : ℕ). R image region h.entries) er (subst (λ (image : Contents). R image w.region h.entries) ei went) in
    inr (record {
      image_is = is ∙ ap Some (i ∙ ei);
      legal = subst (L image job.region) (sym schedule) legal';
      work =
          work ∙ work_along image job.region (length s) h (i ∙ ei) (r ∙ er)
          ∙ ap (λ (entries : List Entry). work_of (history_along image job.region (length s) entries)) (sym schedule);
      went = subst (R image job.region) (sym schedule) went';
    })

-- ---- stages

module _ (job : Job) (call : Call) where
  no_program : (end : End) → LacksProgram job.file end call.told call.told_after call.host_before call.host_after → DidNothing call → EndsReplay job call end
  no_program ReadFault l nothing = (inl l, nothing)
  no_program (Refused reason) l nothing = (l.0, l.1, nothing)
  no_program NoMemory l nothing = (l, inl nothing)
  no_program (Ran over) l nothing = absurd l
  no_program Made l nothing = absurd l
  no_program Words l nothing = absurd l
  no_program (BadImage fault) l nothing = absurd l
  no_program (BadSchedule bad) l nothing = absurd l
  no_program (BadEntry number) l nothing = absurd l
  no_program (BadNumber count) l nothing = absurd l
  no_program WriteFault l nothing = absurd l

  -- there is no image of the text
  pub replay_lacks : (file : List ℕ) (end why : End) → file ≡ job.file → end ≡ why → LacksProgram file why call.told call.told_after call.host_before call.host_after → DidNothing call → EndsReplay job call end
  replay_lacks file end why named e l nothing =
      let F : List ℕ → Type 0 = λ file. LacksProgram file why call.told call.told_after call.host_before call.host_after in
      subst (EndsReplay job call) (sym e) (no_program why (subst F named l) nothing)

  module _ (p : Program) (image : Contents) (file schedule : List ℕ) (middle : Option Content) (faults : ℕ) (file_is : file ≡ job.file) (schedule_is : schedule ≡ job.schedule)
      (compiled : IsImageOf file p image call.told middle call.host_before faults) (same : KeepsTexts call.told middle) where
    read : IsProgramRead file p call.told middle call.host_before faults
    read = record {
      text = record { found = compiled.read.found; accepted = compiled.text; within = compiled.within };
      same = same;
      calm = compiled.read.calm;
    }

    -- nothing came of the schedule
    stepped : (end : End) → LacksSchedule schedule end middle faults call.host_after → DidNothing call → EndsStep job call end → EndsReplay job call end
    stepped ReadFault l nothing e = e
    stepped (BadSchedule fault) l nothing e = e
    stepped NoMemory l nothing e = (e.0, inl e.1)
    stepped (BadImage fault) l nothing e = absurd l
    stepped (BadEntry number) l nothing e = absurd l
    stepped (BadNumber count) l nothing e = absurd l
    stepped Made l nothing e = absurd l
    stepped Words l nothing e = absurd l
    stepped (Refused reason) l nothing e = absurd l
    stepped WriteFault l nothing e = absurd l
    stepped (Ran over) l nothing e = absurd l

    pub replay_lacks_schedule : (end why : End) → end ≡ why → LacksSchedule schedule why middle faults call.host_after → DidNothing call → EndsReplay job call end
    replay_lacks_schedule end why e l nothing =
        subst (EndsReplay job call) (sym e)
        (stepped why l nothing (no_schedule job call p file schedule middle faults file_is schedule_is read why why refl l nothing))

    module _ (h : List Entry) (entries : IsScheduleRead schedule h middle call.told_after faults call.host_after) where
      reads : HasBoth job p h call
      reads = both job call p file schedule middle faults file_is schedule_is read h entries

      did : (end : End) → DidGoAlong job image h call end → Replayed job call end
      did end d = (p, image, h, record { read = reads; alike = compiled.alike; run = d })

      replayed : (end : End) → DidGoAlong job image h call end → EndsReplay job call end
      replayed (Ran over) d = did (Ran over) d
      replayed (BadEntry k) d = did (BadEntry k) d
      replayed WriteFault d = did WriteFault d
      replayed NoMemory d = (reads.calm, inr (did NoMemory d))
      replayed Made d = absurd d.went
      replayed Words d = absurd d.went
      replayed ReadFault d = absurd d.went
      replayed (Refused reason) d = absurd d.went
      replayed (BadImage fault) d = absurd d.went
      replayed (BadSchedule bad) d = absurd d.went
      replayed (BadNumber count) d = absurd d.went

      -- what the stages of `replay` say together
      pub replay_ends : (list : List Entry) (end : End) → list ≡ h → EndsAlong job image list call end → EndsReplay job call end
      replay_ends list end is (inl none) = subst (EndsReplay job call) (sym none.0) (reads.calm, inl none.1)
      replay_ends list end is (inr run) = let P : List Entry → Type 0 = λ h. DidGoAlong job image h call end in replayed end (subst P is run)

  -- ---- causes

  pub missing_replay : (end : End) → EndsReplay job call end → LacksText call.told job.file → (end ≡ ReadFault) ⊎ (end ≡ NoMemory)
  missing_replay (Ran over) e m = absurd (e.3.read.program.found m)
  missing_replay (BadEntry k) e m = absurd (e.3.read.program.found m)
  missing_replay WriteFault e m = absurd (e.3.read.program.found m)
  missing_replay (BadSchedule f) e m = absurd (e.0.text.found m)
  missing_replay (Refused r) e m = absurd (e.0.found m)
  missing_replay ReadFault e m = inl refl
  missing_replay NoMemory e m = inr refl
  missing_replay Made e m = absurd e
  missing_replay Words e m = absurd e
  missing_replay (BadImage f) e m = absurd e
  missing_replay (BadNumber n) e m = absurd e

  pub host_replay : (end : End) → EndsReplay job call end → call.host_before < call.host_after → end ≡ ReadFault
  host_replay (Ran over) e rose = let calm = e.3.read.calm in absurd (omega (arith, calm, rose))
  host_replay (BadEntry k) e rose = let calm = e.3.read.calm in absurd (omega (arith, calm, rose))
  host_replay WriteFault e rose = let calm = e.3.read.calm in absurd (omega (arith, calm, rose))
  host_replay (BadSchedule f) e rose = let calm = e.2 in absurd (omega (arith, calm, rose))
  host_replay (Refused r) e rose = let calm = e.0.calm in absurd (omega (arith, calm, rose))
  host_replay ReadFault e rose = refl
  host_replay NoMemory e rose = let calm = e.0 in absurd (omega (arith, calm, rose))
  host_replay Made e rose = absurd e
  host_replay Words e rose = absurd e
  host_replay (BadImage f) e rose = absurd e
  host_replay (BadNumber n) e rose = absurd e

  pub out_replay : (end : End) → EndsReplay job call end → call.out_before < call.out_after → end ≡ WriteFault
  out_replay (Ran over) e rose = let calm = e.3.run.went.3 in absurd (omega (arith, calm, rose))
  out_replay (BadEntry k) e rose = let calm = e.3.run.went.2 in absurd (omega (arith, calm, rose))
  out_replay WriteFault e rose = refl
  out_replay (BadSchedule f) e rose = let calm = e.3.calm in absurd (omega (arith, calm, rose))
  out_replay (Refused r) e rose = let calm = e.2.calm in absurd (omega (arith, calm, rose))
  out_replay ReadFault e rose = let calm = e.1.calm in absurd (omega (arith, calm, rose))
  out_replay NoMemory e rose = absurd (neither e.1 (λ n. let calm = n.calm in omega (arith, calm, rose)) (λ r. let calm = r.3.run.went.2 in omega (arith, calm, rose)))
  out_replay Made e rose = absurd e
  out_replay Words e rose = absurd e
  out_replay (BadImage f) e rose = absurd e
  out_replay (BadNumber n) e rose = absurd e

  module _ (text : List ℕ) (is : text_in call.told job.file ≡ Some text) where
    has_program : (p : Program) → HasText job.file p call.told → HasProgram text
    has_program p t = (p, t.accepted text is, t.within)

    pub refused_replay : (HasProgram text → ⊥) → (end : End) → EndsReplay job call end → ((r : Reason) × (end ≡ Refused r) × IsRefused text r) ⊎ ((end ≡ ReadFault) ⊎ (end ≡ NoMemory))
    refused_replay none (Ran over) e = absurd (none (has_program e.0 e.3.read.program))
    refused_replay none (BadEntry k) e = absurd (none (has_program e.0 e.3.read.program))
    refused_replay none WriteFault e = absurd (none (has_program e.0 e.3.read.program))
    refused_replay none (BadSchedule f) e = absurd (none (has_program e.0.program e.0.text))
    refused_replay none (Refused r) e = inl (r, refl, e.1 text is)
    refused_replay none ReadFault e = inr (inl refl)
    refused_replay none NoMemory e = inr (inr refl)
    refused_replay none Made e = absurd e
    refused_replay none Words e = absurd e
    refused_replay none (BadImage f) e = absurd e
    refused_replay none (BadNumber n) e = absurd e

    pub missing_schedule_replay : HasProgram text → LacksText call.told job.schedule → (end : End) → EndsReplay job call end → (end ≡ ReadFault) ⊎ (end ≡ NoMemory)
    missing_schedule_replay has m (Ran over) e = absurd (e.3.read.found m)
    missing_schedule_replay has m (BadEntry k) e = absurd (e.3.read.found m)
    missing_schedule_replay has m WriteFault e = absurd (e.3.read.found m)
    missing_schedule_replay has m (BadSchedule f) e = absurd (e.0.found m)
    missing_schedule_replay has m (Refused r) e = absurd (never_both text has.0 r has.1 has.2 (e.1 text is))
    missing_schedule_replay has m ReadFault e = inl refl
    missing_schedule_replay has m NoMemory e = inr refl
    missing_schedule_replay has m Made e = absurd e
    missing_schedule_replay has m Words e = absurd e
    missing_schedule_replay has m (BadImage f) e = absurd e
    missing_schedule_replay has m (BadNumber n) e = absurd e

    module _ (p : Program) (accepted : IsAccepted text p) (within : IsWithin p) (schedule : List ℕ) (named : text_in call.told job.schedule ≡ Some schedule) where
      module _ (fault : ScheduleFault) (wrong : IsBadSchedule fault schedule) where
        none_has : (q : Program) (h : List Entry) → HasBoth job q h call → ⊥
        none_has q h b = never_both_ways schedule h fault (b.entries schedule named).is wrong

        pub bad_schedule_replay : (end : End) → EndsReplay job call end → (end ≡ BadSchedule fault) ⊎ ((end ≡ ReadFault) ⊎ (end ≡ NoMemory))
        bad_schedule_replay (Ran over) e = absurd (none_has e.0 e.2 e.3.read)
        bad_schedule_replay (BadEntry k) e = absurd (none_has e.0 e.2 e.3.read)
        bad_schedule_replay WriteFault e = absurd (none_has e.0 e.2 e.3.read)
        bad_schedule_replay (BadSchedule f) e = inl (ap BadSchedule (one_fault schedule f fault (e.1 schedule named) wrong))
        bad_schedule_replay (Refused r) e = absurd (never_both text p r accepted within (e.1 text is))
        bad_schedule_replay ReadFault e = inr (inl refl)
        bad_schedule_replay NoMemory e = inr (inr refl)
        bad_schedule_replay Made e = absurd e
        bad_schedule_replay Words e = absurd e
        bad_schedule_replay (BadImage f) e = absurd e
        bad_schedule_replay (BadNumber n) e = absurd e

      module _ (h : List Entry) (entries : IsSchedule schedule h) where
        -- with that program and these entries
        as_named : (end : End) → Replayed job call end → (image : Contents) × DidReplay job p image h call end
        as_named end (q, image, k, d) =
            let same : q ≡ p = one_program text q p (d.read.program.accepted text is) accepted in
            let those : h ≡ k = (d.read.entries schedule named).only h entries in
            let D : Program → Type 0 = λ q. DidReplay job q image k call end in
            let E : List Entry → Type 0 = λ k. DidReplay job p image k call end in
            (image, subst E (sym those) (subst D same d))

        -- what follows from each way to end where there is a program and a schedule
        pub by_end : (P : End → Type 0) → ((end : End) (image : Contents) → DidReplay job p image h call end → P end) → (DidNothing call → P NoMemory)
            → (EndsReplay job call ReadFault → P ReadFault) → (end : End) → EndsReplay job call end → P end
        by_end P did memory fault (Ran over) e = let d = as_named (Ran over) e in did (Ran over) d.0 d.1
        by_end P did memory fault (BadEntry k) e = let d = as_named (BadEntry k) e in did (BadEntry k) d.0 d.1
        by_end P did memory fault WriteFault e = let d = as_named WriteFault e in did WriteFault d.0 d.1
        by_end P did memory fault (BadSchedule f) e = absurd (never_both_ways schedule h f entries (e.1 schedule named))
        by_end P did memory fault (Refused r) e = absurd (never_both text p r accepted within (e.1 text is))
        by_end P did memory fault ReadFault e = fault e
        by_end P did memory fault NoMemory (calm, inl nothing) = memory nothing
        by_end P did memory fault NoMemory (calm, inr r) = let d = as_named NoMemory r in did NoMemory d.0 d.1
        by_end P did memory fault Made e = absurd e
        by_end P did memory fault Words e = absurd e
        by_end P did memory fault (BadImage f) e = absurd e
        by_end P did memory fault (BadNumber n) e = absurd e

        -- without a fault outside the text and the schedule are read
        pub not_unread : (Faulted call.host_before call.host_after → ⊥) → EndsReplay job call ReadFault → ⊥
        not_unread calm e =
            neither e.0 (λ f. neither f calm (λ m. not_missing call.told text job.file is m)) (λ m. not_missing call.told schedule job.schedule named m.lacks)
