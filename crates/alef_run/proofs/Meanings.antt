-- The mode `run`: the run of the image of a text is the run of its meaning.
use Rattle.std.proofs.Common.{◌≡◌, ℕ, ◌≤◌, List, [], length, Option, Some, None, refl, sym, ap, ◌∙◌, subst, arith, inl, inr}
use Rattle.std.specs.Prelude.{◌⊎◌, IsSome, option_map, option_and_then}
use Rattle.std.specs.Option.{option_map_or}
use Rattle.al_base.specs.declared.over.Over.{Over}
use Rattle.al_host.specs.Outside.{WhereTold}
use Rattle.al_words.specs.declared.job.Job.{Job}
use Rattle.al_world.specs.World.{Shared, World}
use Rattle.rv_isa.specs.declared.image.Contents.{Contents}
use Rattle.rv_exec.specs.Machine.{machine}
use Rattle.al_core.specs.History.{History, run_of, seen_of, output_of}
use Rattle.al_typed.specs.declared.program.Program.{Program}
use Rattle.al_typed.specs.Measures.{IsWithin}
use Rattle.al_front.specs.Accepted.{IsAccepted}
use Rattle.al_front.proofs.Laws.{one_program, never_both}
use Rattle.al_compile.specs.Meant.{RunsAlike}
use Rattle.alef_texts.specs.Call.{Call, DidNothing, text_in}
use Rattle.alef_run.specs.ExecMode.{DidRunImage, comes_to}
use Rattle.alef_run.specs.Meant.{seen_along, IsRunTo, IsOverAs, WroteAsMeant, EndsAsMeant}
use Rattle.alef_run.specs.Modes.{line_by}
use Rattle.alef_texts.specs.Outside.{GetsAll, GetsPart}
use Rattle.alef_run.specs.Rounds.{IsOver, GetsRounds}
use Rattle.alef_run.specs.RunMode.{DidRun, RanText, EndsRun}
use Rattle.alef_texts.specs.StepMode.{bytes_of_region}
use Rattle.alef_texts.specs.declared.report.End.{End}
use Rattle.alef_texts.specs.declared.report.End.TheVariants.{Ran, Made, Words, ReadFault, Refused, BadImage, BadSchedule, BadEntry, BadNumber, WriteFault, NoMemory}
use Rattle.alef_texts.proofs.Told.{told_as}

pub some_seen : (h : History) → IsSome (run_of h) → (s : Shared) × (seen_of h ≡ Some s)
some_seen h = on (run_of h)
  where
    on : (o : Option (World (machine h.image))) → IsSome o → (s : Shared) × (option_map (λ (w : World (machine h.image)). w.shared) o ≡ Some s)
    on (Some w) is = (w.shared, refl)
    on None is = absurd (cc)

module _ (p : Program) (job : Job) (image : Contents) (call : Call) (few : job.region ≤ 256) (alike : RunsAlike p image) (s : Shared) (seen : seen_of (comes_to image job call) ≡ Some s) where
  pub same : seen_along p (bytes_of_region job) call.schedule ≡ Some s
  same = alike (bytes_of_region job) call.schedule (omega (arith, few)) ∙ seen

  output_is : output_of (comes_to image job call) ≡ s.output
  output_is = ap (λ (o : Option Shared). option_map_or (λ (s : Shared). s.output) o []) seen

  is_run : (end : End) → DidRunImage job image call end → IsRunTo p job call s
  is_run end d = record {
    runs = same;
    most = d.legal.most;
    made_by = d.legal.made_by;
    line = ap (λ (o : Option Contents). line_by (Some job) o call) d.image_is ∙ ap (λ (o : Option Shared). option_map_or (λ (s : Shared). s.line) o 0) seen;
  }

  pub is_over : (over : Over) → IsOver (comes_to image job call) over → IsOverAs s (length call.schedule) job.entries over
  is_over over (inl is) = inl (sym (ap (option_and_then (λ (s : Shared). s.over)) seen) ∙ is)
  is_over over (inr (spent, none, full)) = inr (spent, sym (ap (option_and_then (λ (s : Shared). s.over)) seen) ∙ none, full)

  pub all_got : WhereTold (GetsAll (output_of (comes_to image job call))) call.got_before call.got_after → WhereTold (GetsAll s.output) call.got_before call.got_after
  all_got w = let P : List ℕ → Type 0 = λ out. WhereTold (GetsAll out) call.got_before call.got_after in subst P output_is w

  pub part_got : WhereTold (GetsRounds (comes_to image job call)) call.got_before call.got_after → WhereTold (GetsPart s.output) call.got_before call.got_after
  part_got w =
      let P : List ℕ → Type 0 = λ out. WhereTold (GetsPart out) call.got_before call.got_after in
      subst P output_is
      (told_as (GetsRounds (comes_to image job call)) (GetsPart (output_of (comes_to image job call))) call.got_before call.got_after (λ a b r. (r.size, r.within, r.got)) w)

  ran_as_meant : (end : End) → DidRunImage job image call end → EndsAsMeant p job call end
  ran_as_meant (Ran over) d = (s, is_run (Ran over) d, is_over over d.ran.0, all_got d.ran.1)
  ran_as_meant WriteFault d = (s, is_run WriteFault d, part_got d.ran.1)
  ran_as_meant NoMemory d = inr (s, is_run NoMemory d, part_got d.ran.0)
  ran_as_meant Made d = absurd d.ran
  ran_as_meant Words d = absurd d.ran
  ran_as_meant (BadSchedule bad) d = absurd d.ran
  ran_as_meant (BadEntry number) d = absurd d.ran
  ran_as_meant (BadNumber count) d = absurd d.ran
  ran_as_meant ReadFault d = absurd d.ran
  ran_as_meant (Refused reason) d = absurd d.ran
  ran_as_meant (BadImage fault) d = absurd d.ran

-- so is that of each run, whatever the host tells
pub did_as_meant : (p : Program) (job : Job) (image : Contents) (call : Call) (end : End) → job.region ≤ 256 → DidRun job p image call end → EndsAsMeant p job call end
did_as_meant p job image call end few d =
    let some = some_seen (comes_to image job call) d.run.legal.runs in
    ran_as_meant p job image call few d.compiled.alike some.0 some.1 end d.run

module _ (job : Job) (call : Call) (few : job.region ≤ 256) (text : List ℕ) (is : text_in call.told job.file ≡ Some text) (p : Program) (accepted : IsAccepted text p) (within : IsWithin p) where
  text_as_meant : (end : End) → RanText job call end → EndsAsMeant p job call end
  text_as_meant end (q, image, d) =
      let same : q ≡ p = one_program text q p (d.compiled.text text is) accepted in
      let D : Program → Type 0 = λ q. DidRun job q image call end in
      did_as_meant p job image call end few (subst D same d)

  pub run_as_meant : (end : End) → EndsRun job call end → EndsAsMeant p job call end
  run_as_meant (Ran over) e = text_as_meant (Ran over) e
  run_as_meant WriteFault e = text_as_meant WriteFault e
  run_as_meant NoMemory (calm, inl nothing) = inl nothing
  run_as_meant NoMemory (calm, inr r) = text_as_meant NoMemory r
  run_as_meant ReadFault e = e.1
  run_as_meant (Refused reason) e = absurd (never_both text p reason accepted within (e.1 text is))
  run_as_meant Made e = absurd e
  run_as_meant Words e = absurd e
  run_as_meant (BadSchedule bad) e = absurd e
  run_as_meant (BadEntry number) e = absurd e
  run_as_meant (BadNumber count) e = absurd e
  run_as_meant (BadImage fault) e = absurd e
