-- The mode `replay`: where the program of the text may be compiled, the run of its image along a schedule is the run of its meaning.
use Rattle.std.proofs.Common.{◌≡◌, ℕ, ◌≤◌, List, [], ◌∷◌, ◌++◌, Option, Some, None, refl, sym, ap, ◌∙◌, arith, inl, inr}
use Rattle.std.specs.Prelude.{◌⊎◌, IsSome, option_map}
use Rattle.std.specs.Option.{option_map_or}
use Rattle.al_base.specs.declared.over.Over.{Over}
use Rattle.al_event.specs.declared.entry.Entry.{Entry}
use Rattle.al_host.specs.Outside.{Faulted}
use Rattle.al_trace.specs.Schedule.{IsSchedule}
use Rattle.al_words.specs.declared.job.Job.{Job}
use Rattle.al_world.specs.Control.{Kind}
use Rattle.al_world.specs.World.{Shared, World}
use Rattle.al_world.specs.Step.{step}
use Rattle.rv_isa.specs.declared.image.Contents.{Contents}
use Rattle.rv_exec.specs.Machine.{machine}
use Rattle.al_core.specs.History.{seen_of}
use Rattle.al_typed.specs.declared.program.Program.{Program}
use Rattle.al_typed.specs.Measures.{IsWithin}
use Rattle.al_meaning.specs.Meaning.{source, run}
use Rattle.al_front.specs.Accepted.{IsAccepted}
use Rattle.al_show.specs.Walks.{IsRefused}
use Rattle.al_show.proofs.Runs.{refused_none, one_refused}
use Rattle.al_compile.specs.Meant.{RunsAlike}
use Rattle.alef_texts.specs.Call.{Call, text_in}
use Rattle.alef_texts.specs.StepMode.{bytes_of_region}
use Rattle.alef_texts.specs.declared.report.End.{End}
use Rattle.alef_texts.specs.declared.report.End.TheVariants.{Ran, Made, Words, ReadFault, Refused, BadImage, BadSchedule, BadEntry, BadNumber, WriteFault, NoMemory}
use Rattle.alef_run.specs.Along.{IsStopped}
use Rattle.alef_run.specs.ExecMode.{comes_to}
use Rattle.alef_run.specs.Meant.{seen_along, IsRunTo}
use Rattle.alef_run.specs.MeantAlong.{ReplaysAsMeant}
use Rattle.alef_run.specs.Modes.{line_by}
use Rattle.alef_run.specs.ReplayMode.{along, DidGoAlong, DidReplay, EndsReplay}
use Rattle.alef_run.proofs.Alongs.{run_parts}
use Rattle.alef_run.proofs.Meanings.{some_seen, same, is_over, all_got, part_got}
use Rattle.alef_run.proofs.Replays.{by_end, not_unread}

module _ (K : Kind) where
  world_seen : (o : Option (World K)) (s : Shared) → option_map (λ (w : World K). w.shared) o ≡ Some s → (w : World K) × (o ≡ Some w)
  world_seen (Some w) s e = (w, refl)
  world_seen None s e = absurd (cc)

  none_seen : (o : Option (World K)) → option_map (λ (w : World K). w.shared) o ≡ None → o ≡ None
  none_seen (Some w) e = absurd (cc)
  none_seen None e = refl

module _ (p : Program) (job : Job) (image : Contents) (h : List Entry) (call : Call) (few : job.region ≤ 256) (alike : RunsAlike p image)
    (s : Shared) (seen : seen_of (comes_to image (along h job) call) ≡ Some s) where
  runs : seen_along p (bytes_of_region job) call.schedule ≡ Some s
  runs = same p (along h job) image call few alike s seen

  is_run : (end : End) → DidGoAlong job image h call end → IsRunTo p (along h job) call s
  is_run end d = record {
    runs = runs;
    most = d.legal.most;
    made_by = d.legal.made_by;
    line = ap (λ (o : Option Contents). line_by (Some (along h job)) o call) d.image_is ∙ ap (λ (o : Option Shared). option_map_or (λ (s : Shared). s.line) o 0) seen;
  }

  is_refused : (k : ℕ) → IsStopped (comes_to image (along h job) call) h k → IsRefused p (bytes_of_region job) h k
  is_refused k t =
      let w = world_seen (source p) (run p (bytes_of_region job) call.schedule) s runs in
      let none : run p (bytes_of_region job) (call.schedule ++ t.entry ∷ []) ≡ None =
      none_seen (source p) (run p (bytes_of_region job) (call.schedule ++ t.entry ∷ []))
      (alike (bytes_of_region job) (call.schedule ++ t.entry ∷ []) (omega (arith, few))
      ∙ ap (option_map (λ (w : World (machine image)). w.shared)) t.none) in
      record {
        world = w.0;
        entry = t.entry;
        here = t.here;
        ran = ap (run p (bytes_of_region job)) (sym t.made) ∙ w.1;
        none =
            ap (λ (o : Option (World (source p))). Rattle.std.specs.Prelude.option_and_then (λ w. step (source p) w t.entry) o) (sym w.1)
            ∙ sym (run_parts (source p) call.schedule (t.entry ∷ []) _) ∙ none;
      }

  go_as_meant : (end : End) → DidGoAlong job image h call end → ReplaysAsMeant p job h call end
  go_as_meant (Ran over) d = (
    d.went.0,
    (
      s,
      is_run (Ran over) d,
      is_over p (along h job) image call few alike s seen over d.went.1,
      all_got p (along h job) image call few alike s seen d.went.2,
    ),
  )
  go_as_meant (BadEntry k) d =
      (is_refused k d.went.0, d.went.0.made, (s, is_run (BadEntry k) d, all_got p (along h job) image call few alike s seen d.went.1))
  go_as_meant WriteFault d = (s, is_run WriteFault d, part_got p (along h job) image call few alike s seen d.went.1)
  go_as_meant NoMemory d = inr (s, is_run NoMemory d, part_got p (along h job) image call few alike s seen d.went.1)
  go_as_meant Made d = absurd d.went
  go_as_meant Words d = absurd d.went
  go_as_meant ReadFault d = absurd d.went
  go_as_meant (Refused reason) d = absurd d.went
  go_as_meant (BadImage fault) d = absurd d.went
  go_as_meant (BadSchedule bad) d = absurd d.went
  go_as_meant (BadNumber count) d = absurd d.went

module _ (job : Job) (call : Call) (few : job.region ≤ 256) (text : List ℕ) (is : text_in call.told job.file ≡ Some text) (p : Program) (accepted : IsAccepted text p) (within : IsWithin p)
    (schedule : List ℕ) (named : text_in call.told job.schedule ≡ Some schedule) (h : List Entry) (entries : IsSchedule schedule h) where
  did_as_meant : (end : End) (image : Contents) → DidReplay job p image h call end → ReplaysAsMeant p job h call end
  did_as_meant end image d =
      let some = some_seen (comes_to image (along h job) call) d.run.legal.runs in
      go_as_meant p job image h call few d.alike some.0 some.1 end d.run

  pub replay_as_meant : (end : End) → EndsReplay job call end → ReplaysAsMeant p job h call end
  replay_as_meant =
      by_end job call text is p accepted within schedule named h entries (ReplaysAsMeant p job h call) did_as_meant (λ n. inl n) (λ e. e.1)

  module _ (calm : Faulted call.host_before call.host_after → ⊥) (calm' : Faulted call.out_before call.out_after → ⊥) where
    unread : EndsReplay job call ReadFault → ⊥
    unread = not_unread job call text is p accepted within schedule named h entries calm

    -- ---- an entry that is not permitted

    module _ (k : ℕ) (refused : IsRefused p (bytes_of_region job) h k) where
      no_run : (over : Over) → ReplaysAsMeant p job h call (Ran over) → ⊥
      no_run over m =
          let none = refused_none p (bytes_of_region job) h k refused in
          let runs = ap (seen_along p (bytes_of_region job)) (sym m.0) ∙ m.1.1.runs in
          let seen = ap (option_map (λ (w : World (source p)). w.shared)) none in
          let clash : None ≡ Some m.1.0 = sym seen ∙ runs in cc

      stops : (end : End) (image : Contents) → DidReplay job p image h call end → (end ≡ BadEntry k) ⊎ (end ≡ NoMemory)
      stops (Ran over) image d = absurd (no_run over (did_as_meant (Ran over) image d))
      stops (BadEntry j) image d = inl (ap BadEntry (one_refused p (bytes_of_region job) h j k (did_as_meant (BadEntry j) image d).0 refused))
      stops WriteFault image d = absurd (calm' d.run.went.2)
      stops NoMemory image d = inr refl
      stops Made image d = absurd d.run.went
      stops Words image d = absurd d.run.went
      stops ReadFault image d = absurd d.run.went
      stops (Refused reason) image d = absurd d.run.went
      stops (BadImage fault) image d = absurd d.run.went
      stops (BadSchedule bad) image d = absurd d.run.went
      stops (BadNumber count) image d = absurd d.run.went

      pub bad_entry_replay : (end : End) → EndsReplay job call end → (end ≡ BadEntry k) ⊎ (end ≡ NoMemory)
      bad_entry_replay =
          by_end job call text is p accepted within schedule named h entries (λ (end : End). (end ≡ BadEntry k) ⊎ (end ≡ NoMemory)) stops (λ n. inr refl) (λ e. absurd (unread e))

    -- ---- entries that are permitted

    module _ (some : IsSome (run p (bytes_of_region job) h)) where
      ends : (end : End) (image : Contents) → DidReplay job p image h call end → ((over : Over) × (end ≡ Ran over)) ⊎ (end ≡ NoMemory)
      ends (Ran over) image d = inl (over, refl)
      ends (BadEntry j) image d = absurd (let none = refused_none p (bytes_of_region job) h j (did_as_meant (BadEntry j) image d).0 in cc)
      ends WriteFault image d = absurd (calm' d.run.went.2)
      ends NoMemory image d = inr refl
      ends Made image d = absurd d.run.went
      ends Words image d = absurd d.run.went
      ends ReadFault image d = absurd d.run.went
      ends (Refused reason) image d = absurd d.run.went
      ends (BadImage fault) image d = absurd d.run.went
      ends (BadSchedule bad) image d = absurd d.run.went
      ends (BadNumber count) image d = absurd d.run.went

      pub complete_replay : (end : End) → EndsReplay job call end → ((over : Over) × (end ≡ Ran over)) ⊎ (end ≡ NoMemory)
      complete_replay =
          by_end job call text is p accepted within schedule named h entries (λ (end : End). ((over : Over) × (end ≡ Ran over)) ⊎ (end ≡ NoMemory)) ends (λ n. inr refl) (λ e. absurd (unread e))
