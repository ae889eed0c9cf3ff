-- The mode `step`: from why it ends as it does to which end each cause has.
use Rattle.std.proofs.Common.{◌≡◌, ℕ, ◌<◌, ◌≤◌, List, length, Some, Ok, Err, Result, refl, sym, ap, ◌∙◌, subst, arith, inl, inr}
use Rattle.std.specs.Prelude.{◌⊎◌, IsSome}
use Rattle.std.specs.Global.{Vec}
use Rattle.al_event.specs.declared.entry.Entry.{Entry}
use Rattle.al_host.specs.Outside.{Faulted}
use Rattle.al_trace.specs.declared.stop.TraceStop.{TraceStop}
use Rattle.al_trace.specs.declared.stop.TraceStop.TheVariants as trace
use Rattle.al_trace.specs.Schedule.{IsSchedule}
use Rattle.al_trace.proofs.Unique.{answered}
use Rattle.al_words.specs.declared.job.Job.{Job}
use Rattle.al_typed.specs.declared.program.Program.{Program}
use Rattle.al_typed.specs.Measures.{IsWithin}
use Rattle.al_meaning.specs.Meaning.{run}
use Rattle.al_front.specs.Accepted.{IsAccepted, IsRefused as IsTextRefused}
use Rattle.al_front.specs.declared.refused.Refused.{Refused as Reason}
use Rattle.al_front.proofs.Laws.{one_program, never_both}
use Rattle.al_show.specs.Walks.{IsRefused}
use Rattle.al_show.proofs.Runs.{refused_none, one_refused}
use Rattle.alef_texts.specs.Call.{Call, LacksText, text_in}
use Rattle.alef_texts.specs.CheckMode.{HasProgram}
use Rattle.alef_texts.specs.Load.{IsBadSchedule}
use Rattle.alef_texts.specs.StepMode.{EndsStep, HasText, HasBoth, bytes_of_region, first_of}
use Rattle.alef_texts.specs.declared.report.End.{End}
use Rattle.alef_texts.specs.declared.report.End.TheVariants.{Ran, Made, Words, ReadFault, Refused, BadImage, BadSchedule, BadEntry, BadNumber, WriteFault, NoMemory}
use Rattle.alef_texts.specs.declared.report.ScheduleFault.{ScheduleFault}
use Rattle.alef_texts.specs.declared.report.ScheduleFault.TheVariants as bad
use Rattle.alef_texts.proofs.Told.{neither, not_missing}

-- ---- a text is one thing

abbrev stopped : TraceStop → Result (Vec Entry) TraceStop
stopped s = Err s

abbrev stop_read : TraceStop → Result (List Entry) TraceStop
stop_read s = Err s

pub never_both_ways : (text : List ℕ) (h : List Entry) (fault : ScheduleFault) → IsSchedule text h → IsBadSchedule fault text → ⊥
never_both_ways text h (bad.Line k) is wrong = let e = answered text (stopped (trace.BadLine k)) (Ok h) wrong is in cc
never_both_ways text h bad.TooLong is wrong = let e = answered text (stopped trace.TooLong) (Ok h) wrong is in cc

pub one_fault : (text : List ℕ) (f g : ScheduleFault) → IsBadSchedule f text → IsBadSchedule g text → f ≡ g
one_fault text (bad.Line j) (bad.Line k) a b = let e = answered text (stopped (trace.BadLine j)) (stop_read (trace.BadLine k)) a b in let same : j ≡ k = cc in ap bad.Line same
one_fault text (bad.Line j) bad.TooLong a b = let e = answered text (stopped (trace.BadLine j)) (stop_read trace.TooLong) a b in absurd (cc)
one_fault text bad.TooLong (bad.Line k) a b = let e = answered text (stopped trace.TooLong) (stop_read (trace.BadLine k)) a b in absurd (cc)
one_fault text bad.TooLong bad.TooLong a b = refl

module _ (job : Job) (call : Call) where
  -- ---- faults outside

  pub missing_step : (end : End) → EndsStep job call end → LacksText call.told job.file → (end ≡ ReadFault) ⊎ (end ≡ NoMemory)
  missing_step Made e m = absurd (e.3.read.0.program.found m)
  missing_step WriteFault e m = absurd (e.3.read.0.program.found m)
  missing_step (BadEntry k) e m = absurd (e.2.read.0.program.found m)
  missing_step (BadNumber n) e m = absurd (e.2.program.found m)
  missing_step (BadSchedule f) e m = absurd (e.0.text.found m)
  missing_step (Refused r) e m = absurd (e.0.found m)
  missing_step ReadFault e m = inl refl
  missing_step NoMemory e m = inr refl
  missing_step (Ran over) e m = absurd e
  missing_step Words e m = absurd e
  missing_step (BadImage f) e m = absurd e

  pub host_step : (end : End) → EndsStep job call end → call.host_before < call.host_after → end ≡ ReadFault
  host_step Made e rose = let calm = e.3.read.0.calm in absurd (omega (arith, calm, rose))
  host_step WriteFault e rose = let calm = e.3.read.0.calm in absurd (omega (arith, calm, rose))
  host_step (BadEntry k) e rose = let calm = e.2.read.0.calm in absurd (omega (arith, calm, rose))
  host_step (BadNumber n) e rose = let calm = e.2.calm in absurd (omega (arith, calm, rose))
  host_step (BadSchedule f) e rose = let calm = e.2 in absurd (omega (arith, calm, rose))
  host_step (Refused r) e rose = let calm = e.0.calm in absurd (omega (arith, calm, rose))
  host_step ReadFault e rose = refl
  host_step NoMemory e rose = let calm = e.0 in absurd (omega (arith, calm, rose))
  host_step (Ran over) e rose = absurd e
  host_step Words e rose = absurd e
  host_step (BadImage f) e rose = absurd e

  pub out_step : (end : End) → EndsStep job call end → call.out_before < call.out_after → end ≡ WriteFault
  out_step Made e rose = let calm = e.5 in absurd (omega (arith, calm, rose))
  out_step WriteFault e rose = refl
  out_step (BadEntry k) e rose = let calm = e.2.wrote.calm in absurd (omega (arith, calm, rose))
  out_step (BadNumber n) e rose = let calm = e.5.calm in absurd (omega (arith, calm, rose))
  out_step (BadSchedule f) e rose = let calm = e.3.calm in absurd (omega (arith, calm, rose))
  out_step (Refused r) e rose = let calm = e.2.calm in absurd (omega (arith, calm, rose))
  out_step ReadFault e rose = let calm = e.1.calm in absurd (omega (arith, calm, rose))
  out_step NoMemory e rose = let calm = e.1.calm in absurd (omega (arith, calm, rose))
  out_step (Ran over) e rose = absurd e
  out_step Words e rose = absurd e
  out_step (BadImage f) e rose = absurd e

  module _ (text : List ℕ) (is : text_in call.told job.file ≡ Some text) where
    -- ---- a text that is refused

    has_program : (p : Program) → HasText job.file p call.told → HasProgram text
    has_program p t = (p, t.accepted text is, t.within)

    pub refused_step : (HasProgram text → ⊥) → (end : End) → EndsStep job call end → ((r : Reason) × (end ≡ Refused r) × IsTextRefused text r) ⊎ ((end ≡ ReadFault) ⊎ (end ≡ NoMemory))
    refused_step none Made e = absurd (none (has_program e.0 e.3.read.0.program))
    refused_step none WriteFault e = absurd (none (has_program e.0 e.3.read.0.program))
    refused_step none (BadEntry k) e = absurd (none (has_program e.0 e.2.read.0.program))
    refused_step none (BadNumber n) e = absurd (none (has_program e.0 e.2.program))
    refused_step none (BadSchedule f) e = absurd (none (has_program e.0.program e.0.text))
    refused_step none (Refused r) e = inl (r, refl, e.1 text is)
    refused_step none ReadFault e = inr (inl refl)
    refused_step none NoMemory e = inr (inr refl)
    refused_step none (Ran over) e = absurd e
    refused_step none Words e = absurd e
    refused_step none (BadImage f) e = absurd e

    -- ---- a schedule that is not there

    pub missing_schedule_step : HasProgram text → LacksText call.told job.schedule → (end : End) → EndsStep job call end → (end ≡ ReadFault) ⊎ (end ≡ NoMemory)
    missing_schedule_step has m Made e = absurd (e.3.read.0.found m)
    missing_schedule_step has m WriteFault e = absurd (e.3.read.0.found m)
    missing_schedule_step has m (BadEntry k) e = absurd (e.2.read.0.found m)
    missing_schedule_step has m (BadNumber n) e = absurd (e.2.found m)
    missing_schedule_step has m (BadSchedule f) e = absurd (e.0.found m)
    missing_schedule_step has m (Refused r) e = absurd (never_both text has.0 r has.1 has.2 (e.1 text is))
    missing_schedule_step has m ReadFault e = inl refl
    missing_schedule_step has m NoMemory e = inr refl
    missing_schedule_step has m (Ran over) e = absurd e
    missing_schedule_step has m Words e = absurd e
    missing_schedule_step has m (BadImage f) e = absurd e

    module _ (p : Program) (accepted : IsAccepted text p) (within : IsWithin p) (schedule : List ℕ) (named : text_in call.told job.schedule ≡ Some schedule) where
      not_refused : (r : Reason) → ((text : List ℕ) → text_in call.told job.file ≡ Some text → IsTextRefused text r) → ⊥
      not_refused r e = never_both text p r accepted within (e text is)

      same_program : (q : Program) → HasText job.file q call.told → q ≡ p
      same_program q t = one_program text q p (t.accepted text is) accepted

      -- ---- a schedule that is none

      module _ (fault : ScheduleFault) (wrong : IsBadSchedule fault schedule) where
        none_has : (q : Program) (h : List Entry) → HasBoth job q h call → ⊥
        none_has q h b = never_both_ways schedule h fault (b.entries schedule named).is wrong

        pub bad_schedule_step : (end : End) → EndsStep job call end → (end ≡ BadSchedule fault) ⊎ ((end ≡ ReadFault) ⊎ (end ≡ NoMemory))
        bad_schedule_step Made e = absurd (none_has e.0 e.1 e.3.read.0)
        bad_schedule_step WriteFault e = absurd (none_has e.0 e.1 e.3.read.0)
        bad_schedule_step (BadEntry k) e = absurd (none_has e.0 e.1 e.2.read.0)
        bad_schedule_step (BadNumber n) e = absurd (none_has e.0 e.1 e.2)
        bad_schedule_step (BadSchedule f) e = inl (ap BadSchedule (one_fault schedule f fault (e.1 schedule named) wrong))
        bad_schedule_step (Refused r) e = absurd (not_refused r e.1)
        bad_schedule_step ReadFault e = inr (inl refl)
        bad_schedule_step NoMemory e = inr (inr refl)
        bad_schedule_step (Ran over) e = absurd e
        bad_schedule_step Words e = absurd e
        bad_schedule_step (BadImage f) e = absurd e

      module _ (h : List Entry) (entries : IsSchedule schedule h) where
        not_bad : (f : ScheduleFault) → ((text : List ℕ) → text_in call.told job.schedule ≡ Some text → IsBadSchedule f text) → ⊥
        not_bad f e = never_both_ways schedule h f entries (e schedule named)

        same_entries : (q : Program) (k : List Entry) → HasBoth job q k call → h ≡ k
        same_entries q k b = (b.entries schedule named).only h entries

        -- ---- too few entries

        few_has : length h < job.number → (q : Program) (k : List Entry) → HasBoth job q k call → job.number ≤ length k → ⊥
        few_has few q k b enough = let same = ap length (same_entries q k b) in omega (arith, same, few, enough)

        pub bad_number_step : length h < job.number → (end : End) → EndsStep job call end → (end ≡ BadNumber (length h)) ⊎ ((end ≡ ReadFault) ⊎ (end ≡ NoMemory))
        bad_number_step few Made e = absurd (few_has few e.0 e.1 e.3.read.0 e.3.read.1)
        bad_number_step few WriteFault e = absurd (few_has few e.0 e.1 e.3.read.0 e.3.read.1)
        bad_number_step few (BadEntry k) e = absurd (few_has few e.0 e.1 e.2.read.0 e.2.read.1)
        bad_number_step few (BadNumber n) e = inl (ap BadNumber (e.3 ∙ sym (ap length (same_entries e.0 e.1 e.2))))
        bad_number_step few (BadSchedule f) e = absurd (not_bad f e.1)
        bad_number_step few (Refused r) e = absurd (not_refused r e.1)
        bad_number_step few ReadFault e = inr (inl refl)
        bad_number_step few NoMemory e = inr (inr refl)
        bad_number_step few (Ran over) e = absurd e
        bad_number_step few Words e = absurd e
        bad_number_step few (BadImage f) e = absurd e

        module _ (enough : job.number ≤ length h) where
          not_few : (q : Program) (k : List Entry) (n : ℕ) → HasBoth job q k call → n ≡ length k → n < job.number → ⊥
          not_few q k n b size few = let same = ap length (same_entries q k b) in omega (arith, same, size, few, enough)

          -- the run is that of the text along the schedule
          run_is : (q : Program) (k : List Entry) → HasBoth job q k call → (P : (q : Program) → List Entry → Type 0) → P q (first_of job k) → P p (first_of job h)
          run_is q k b P x =
              subst (λ (q : Program). P q (first_of job h)) (same_program q b.program) (subst (λ (k : List Entry). P q (first_of job k)) (sym (same_entries q k b)) x)

          -- ---- an entry that is not permitted

          module _ (k : ℕ) (refused : IsRefused p (bytes_of_region job) (first_of job h) k) where
            no_run : (q : Program) (l : List Entry) → HasBoth job q l call → IsSome (run q (bytes_of_region job) (first_of job l)) → ⊥
            no_run q l b some =
                let none = refused_none p (bytes_of_region job) (first_of job h) k refused in
                let runs = run_is q l b (λ (q : Program) (l : List Entry). IsSome (run q (bytes_of_region job) l)) some in
                cc

            pub bad_entry_step : (end : End) → EndsStep job call end → (end ≡ BadEntry k) ⊎ ((end ≡ ReadFault) ⊎ (end ≡ NoMemory))
            bad_entry_step Made e = absurd (no_run e.0 e.1 e.3.read.0 (let ran = e.3.shown.ran in cc))
            bad_entry_step WriteFault e = absurd (no_run e.0 e.1 e.3.read.0 (let ran = e.3.shown.ran in cc))
            bad_entry_step (BadEntry j) e =
                inl (ap BadEntry (one_refused p (bytes_of_region job) (first_of job h) j k
                (run_is e.0 e.1 e.2.read.0 (λ (q : Program) (l : List Entry). IsRefused q (bytes_of_region job) l j) e.2.refused) refused))
            bad_entry_step (BadNumber n) e = absurd (not_few e.0 e.1 n e.2 e.3 e.4)
            bad_entry_step (BadSchedule f) e = absurd (not_bad f e.1)
            bad_entry_step (Refused r) e = absurd (not_refused r e.1)
            bad_entry_step ReadFault e = inr (inl refl)
            bad_entry_step NoMemory e = inr (inr refl)
            bad_entry_step (Ran over) e = absurd e
            bad_entry_step Words e = absurd e
            bad_entry_step (BadImage f) e = absurd e

          -- ---- entries that are permitted

          module _ (runs : IsSome (run p (bytes_of_region job) (first_of job h))) (calm : Faulted call.host_before call.host_after → ⊥) (calm' : Faulted call.out_before call.out_after → ⊥) where
            pub complete_step : (end : End) → EndsStep job call end → (end ≡ Made) ⊎ (end ≡ NoMemory)
            complete_step Made e = inl refl
            complete_step WriteFault e = absurd (calm' e.5)
            complete_step (BadEntry j) e =
                absurd (let none = refused_none p (bytes_of_region job) (first_of job h) j (run_is e.0 e.1 e.2.read.0 (λ (q : Program) (l : List Entry). IsRefused q (bytes_of_region job) l j) e.2.refused) in cc)
            complete_step (BadNumber n) e = absurd (not_few e.0 e.1 n e.2 e.3 e.4)
            complete_step (BadSchedule f) e = absurd (not_bad f e.1)
            complete_step (Refused r) e = absurd (not_refused r e.1)
            complete_step ReadFault e =
                absurd (neither e.0 (λ f. neither f calm (λ m. not_missing call.told text job.file is m)) (λ m. not_missing call.told schedule job.schedule named m.lacks))
            complete_step NoMemory e = inr refl
            complete_step (Ran over) e = absurd e
            complete_step Words e = absurd e
            complete_step (BadImage f) e = absurd e
