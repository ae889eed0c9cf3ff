-- A replay along a recorded schedule.
use Rattle.std.proofs.Common.{◌≡◌, ℕ, ◌*◌, length, Some, None, refl, sym, ap, ◌∙◌, subst, inl, inr}
use Rattle.std.specs.Prelude.{◌⊎◌, option_map}
use Rattle.std.proofs.lemmas.Option.{same_Some}
use Rattle.al_base.specs.declared.over.Over.{Over}
use Rattle.al_host.specs.Outside.{WhereTold}
use Rattle.al_words.specs.declared.job.Job.{Job}
use Rattle.al_world.specs.World.{Shared, World}
use Rattle.al_typed.specs.declared.program.Program.{Program}
use Rattle.al_meaning.specs.Meaning.{source}
use Rattle.al_show.proofs.Runs.{refused_none}
use Rattle.alef_texts.specs.Call.{Call}
use Rattle.alef_texts.specs.Outside.{GetsAll}
use Rattle.alef_texts.specs.StepMode.{bytes_of_region}
use Rattle.alef_texts.specs.declared.report.End.{End}
use Rattle.alef_texts.specs.declared.report.End.TheVariants.{Ran, Made, Words, ReadFault, Refused, BadImage, BadSchedule, BadEntry, BadNumber, WriteFault, NoMemory}
use Rattle.alef_run.specs.Meant.{seen_along, IsOverAs, EndsAsMeant}
use Rattle.alef_run.specs.MeantAlong.{ReplaysAsMeant}
use Rattle.alef_run.specs.RecordMode.{unseen}
use Rattle.alef_run.specs.Recorded.{ReplaysAsRecorded}

-- a world that two runs lead to is over in one way
one_end : (s : Shared) (made limit made' limit' : ℕ) (a b : Over) → IsOverAs s made limit a → IsOverAs s made' limit' b → a ≡ b
one_end s made limit made' limit' a b (inl x) (inl y) = same_Some a b (sym x ∙ y)
one_end s made limit made' limit' a b (inl x) (inr y) = let clash : Some a ≡ None = sym x ∙ y.1 in absurd (cc)
one_end s made limit made' limit' a b (inr x) (inl y) = let clash : Some b ≡ None = sym y ∙ x.1 in absurd (cc)
one_end s made limit made' limit' a b (inr x) (inr y) = x.0 ∙ sym y.0

module _ (p : Program) (job again : Job) (recorded replayed : Call) (over : Over) (region : again.region ≡ job.region) (m : EndsAsMeant p job (unseen recorded) (Ran over)) where
  seen : seen_along p (bytes_of_region again) recorded.schedule ≡ Some m.0
  seen = ap (λ (r : ℕ). seen_along p (r * 0x100000) recorded.schedule) region ∙ m.1.runs

  pub as_recorded : (end : End) → ReplaysAsMeant p again recorded.schedule replayed end → ReplaysAsRecorded p job recorded replayed over end
  as_recorded (Ran other) (all, (s, run, is, wrote)) =
      let same : s ≡ m.0 = same_Some s m.0 (sym run.runs ∙ ap (seen_along p (bytes_of_region again)) all ∙ seen) in
      let O : Shared → Type 0 = λ s. IsOverAs s (length replayed.schedule) (length recorded.schedule) other in
      inl (record {
        end_is = ap Ran (one_end m.0 _ _ _ _ other over (subst O same is) m.2);
        schedule = all;
        world = m.0;
        run = m.1;
        wrote = let W : Shared → Type 0 = λ s. WhereTold (GetsAll s.output) replayed.got_before replayed.got_after in subst W same wrote;
      })
  as_recorded (BadEntry k) (refused, made, rest) =
      let none = ap (option_map (λ (w : World (source p)). w.shared)) (refused_none p (bytes_of_region again) recorded.schedule k refused) in
      let clash : None ≡ Some m.0 = sym none ∙ seen in absurd (cc)
  as_recorded WriteFault r = inr (inr (inl refl))
  as_recorded NoMemory r = inr (inr (inr refl))
  as_recorded ReadFault r = inr (inl refl)
  as_recorded Made r = absurd r
  as_recorded Words r = absurd r
  as_recorded (Refused reason) r = absurd r
  as_recorded (BadImage fault) r = absurd r
  as_recorded (BadSchedule bad) r = absurd r
  as_recorded (BadNumber count) r = absurd r
