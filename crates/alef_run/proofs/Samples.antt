-- The mode `sample`: from what its stages say to why it ends as it does, and to which end each cause has.
use Rattle.std.proofs.Common.{◌≡◌, ℕ, ◌+◌, ◌<◌, List, ◌++◌, length, take, drop, Option, Some, None, Err, refl, sym, ap, ◌∙◌, subst, arith, append_assoc, length-append, inl, inr}
use Rattle.std.specs.Prelude.{◌⊎◌}
use Rattle.std.proofs.lemmas.List.{take-append-le, drop_at, take_at}
use Rattle.al_base.specs.declared.over.Over.{Over}
use Rattle.al_event.specs.declared.entry.Entry.{Entry}
use Rattle.al_host.specs.Outside.{Faulted, WhereTold}
use Rattle.al_words.specs.declared.job.Job.{Job}
use Rattle.rv_isa.specs.declared.image.Contents.{Contents}
use Rattle.al_sample.specs.Sample.{sample_text}
use Rattle.al_front.proofs.Laws.{never_both}
use Rattle.al_core.specs.History.{output_of, line_of}
use Rattle.alef_texts.specs.Call.{Call, IsUnread, DidNothing}
use Rattle.alef_texts.specs.CheckMode.{HasProgram}
use Rattle.alef_texts.specs.Outside.{GetsAll, GetsPart}
use Rattle.alef_texts.specs.declared.report.End.{End}
use Rattle.alef_texts.specs.declared.report.End.TheVariants.{Ran, Made, Words, ReadFault, Refused, BadImage, BadSchedule, BadEntry, BadNumber, WriteFault, NoMemory}
use Rattle.alef_texts.proofs.Told.{neither, told_as, told_then, take-add}
use Rattle.alef_run.specs.Compiling.{IsCompiled, CompilesText}
use Rattle.alef_run.specs.ExecMode.{comes_to, DidRunImage, EndsImage}
use Rattle.alef_run.specs.Rounds.{GetsRounds, history_along}
use Rattle.alef_run.specs.Modes.{line_by}
use Rattle.alef_run.specs.SampleMode.{count_line, RanSample, sample_output, EndsSample, EndsCounting}

-- ---- what a sink got

part_longer : (out line a b : List ℕ) → GetsPart out a b → GetsPart (out ++ line) a b
part_longer out line a b (n, few, e) =
    (n, (let l = length-append out line in omega (arith, few, l)), e ∙ ap (λ (v : List ℕ). a ++ v) (sym (take-append-le n out line few)))

all_longer : (out line a b c : List ℕ) → GetsAll out a b → GetsAll line b c → GetsAll (out ++ line) a c
all_longer out line a b c p q = q ∙ ap (λ (v : List ℕ). v ++ line) p ∙ append_assoc a out line

part_behind : (out line a b c : List ℕ) → GetsAll out a b → GetsPart line b c → GetsPart (out ++ line) a c
part_behind out line a b c p (n, few, e) = (
  length out + n,
  (let l = length-append out line in omega (arith, few, l)),
  e ∙ ap (λ (v : List ℕ). v ++ take n line) p ∙ append_assoc a out (take n line) ∙ ap (λ (v : List ℕ). a ++ v) (sym (take_past out)),
)
  where
    take_past : (o : List ℕ) → take (length o + n) (o ++ line) ≡ o ++ take n line
    take_past o =
        take-add (length o) n (o ++ line)
        ∙ ap (λ (v : List ℕ). v ++ take n (drop (length o) (o ++ line))) (take_at o line (length o) refl)
        ∙ ap (λ (v : List ℕ). o ++ take n v) (drop_at o line (length o) refl)

-- the line of a trap, where the schedule and the image stay
pub same_line : (job : Job) (i i' : Option Contents) (call call' : Call) → i' ≡ i → call'.schedule ≡ call.schedule → line_by (Some job) i call ≡ line_by (Some job) i' call'
same_line job None i' call call' e s = sym (ap (λ (o : Option Contents). line_by (Some job) o call') e)
same_line job (Some image) i' call call' e s =
    ap (λ (h : List Entry). line_of (history_along image job.region job.entries h)) (sym s) ∙ sym (ap (λ (o : Option Contents). line_by (Some job) o call') e)

-- ---- stages

-- what a sink got and counted the last line was written
pub record Middle : Type 0 where
  pub got : Option (List ℕ)
  pub faults : ℕ

abbrev pub until : Middle → Call → Call
until m call = record call { got_after = m.got; out_after = m.faults }

module _ (job : Job) (call : Call) (unread : IsUnread call) where
  -- no image was made
  pub sample_lacks : (text : List ℕ) (end why : End) → text ≡ sample_text job.number → end ≡ why → CompilesText text (Err why) → DidNothing call → EndsSample job call end
  sample_lacks text end why is e c nothing =
      let T : List ℕ → Type 0 = λ text. CompilesText text (Err why) in
      subst (EndsSample job call) (sym e) (on why (subst T is c))
    where
      on : (why : End) → CompilesText (sample_text job.number) (Err why) → EndsSample job call why
      on (Refused reason) c = (c, nothing, unread)
      on NoMemory c = (inl nothing, unread)
      on (Ran over) c = absurd c
      on Made c = absurd c
      on Words c = absurd c
      on ReadFault c = absurd c
      on (BadImage fault) c = absurd c
      on (BadSchedule bad) c = absurd c
      on (BadEntry number) c = absurd c
      on (BadNumber count) c = absurd c
      on WriteFault c = absurd c

  module _ (image : Contents) (compiled : IsCompiled (sample_text job.number) image) (m : Middle) where
    ran : (end : End) → DidRunImage job image (until m call) end → RanSample job image call
    ran end d = record { compiled = compiled; image_is = d.image_is; legal = d.legal; work = d.work }

    abbrev out : List ℕ
    out = output_of (comes_to image job call)

    rounds : WhereTold (GetsRounds (comes_to image job call)) call.got_before m.got → m.got ≡ call.got_after → WhereTold (GetsPart (sample_output job image call)) call.got_before call.got_after
    rounds w e =
        let P : Option (List ℕ) → Type 0 = λ got. WhereTold (GetsPart (sample_output job image call)) call.got_before got in
        subst P e
        (told_as (GetsRounds (comes_to image job call)) (GetsPart (sample_output job image call)) call.got_before m.got
        (λ a b r. part_longer out (count_line job.number) a b (r.size, r.within, r.got)) w)

    -- what the run and the writing of the last line say together
    pub sampled : (why end : End) → DidRunImage job image (until m call) why → EndsCounting why job.number end m.got call.got_after m.faults call.out_after → EndsSample job call end
    sampled (Ran over) end d (inl w) =
        subst (EndsSample job call) (sym w.0) (
          image,
          ran (Ran over) d,
          d.ran.0,
          told_then (GetsAll out) (GetsAll (count_line job.number)) (GetsAll (sample_output job image call)) call.got_before m.got call.got_after (all_longer out (count_line job.number)) d.ran.1 w.1,
          w.2 ∙ d.ran.2,
          unread,
        )
    sampled (Ran over) end d (inr w) =
        subst (EndsSample job call) (sym w.0) (
          (
            image,
            ran (Ran over) d,
            told_then (GetsAll out) (GetsPart (count_line job.number)) (GetsPart (sample_output job image call)) call.got_before m.got call.got_after (part_behind out (count_line job.number)) d.ran.1 w.1,
          ),
          subst (λ (n : ℕ). Faulted n call.out_after) d.ran.2 w.2,
          unread,
        )
    sampled WriteFault end d w =
        subst (EndsSample job call) (sym w.0)
        ((image, ran WriteFault d, rounds d.ran.1 (sym w.1)), subst (λ (n : ℕ). Faulted call.out_before n) (sym w.2) d.ran.2, unread)
    sampled NoMemory end d w =
        subst (EndsSample job call) (sym w.0) (inr ((image, ran NoMemory d, rounds d.ran.0 (sym w.1)), w.2 ∙ d.ran.1), unread)
    sampled Made end d w = absurd d.ran
    sampled Words end d w = absurd d.ran
    sampled ReadFault end d w = absurd d.ran
    sampled (Refused reason) end d w = absurd d.ran
    sampled (BadImage fault) end d w = absurd d.ran
    sampled (BadSchedule bad) end d w = absurd d.ran
    sampled (BadEntry number) end d w = absurd d.ran
    sampled (BadNumber count) end d w = absurd d.ran

    pub sample_ends : (why end : End) → EndsImage job image (until m call) why → EndsCounting why job.number end m.got call.got_after m.faults call.out_after → EndsSample job call end
    sample_ends why end (inr d) w = sampled why end d w
    sample_ends why end (inl none) w =
        let C : End → Type 0 = λ why. EndsCounting why job.number end m.got call.got_after m.faults call.out_after in
        let v = subst C none.0 w in
        let n = none.1 in
        subst (EndsSample job call) (sym v.0)
        (inl (record { schedule = n.schedule; work = n.work; image = n.image; got = v.1 ∙ n.got; calm = v.2 ∙ n.calm }), unread)

    -- the same, where what the run made stands by itself
    pub sample_from : (s : List Entry) (w : ℕ) (i : Option Contents) → call.schedule ≡ s → call.work ≡ w → call.image ≡ i → (why end : End) → EndsImage job image (record (until m call) { schedule = s; work = w; image = i }) why
        → EndsCounting why job.number end m.got call.got_after m.faults call.out_after → EndsSample job call end
    sample_from s w i schedule work made why end e counting =
        let S : List Entry → Type 0 = λ s. EndsImage job image (record (until m call) { schedule = s; work = w; image = i }) why in
        let W : ℕ → Type 0 = λ w. EndsImage job image (record (until m call) { schedule = call.schedule; work = w; image = i }) why in
        let I : Option Contents → Type 0 = λ i. EndsImage job image (record (until m call) { schedule = call.schedule; work = call.work; image = i }) why in
        sample_ends why end (subst I (sym made) (subst W (sym work) (subst S (sym schedule) e))) counting

-- ---- causes

module _ (job : Job) (call : Call) where
  pub host_sample : (end : End) → EndsSample job call end → call.host_before < call.host_after → end ≡ ReadFault
  host_sample (Ran over) e rose = let calm = e.5.calm in absurd (omega (arith, calm, rose))
  host_sample WriteFault e rose = let calm = e.2.calm in absurd (omega (arith, calm, rose))
  host_sample NoMemory e rose = let calm = e.1.calm in absurd (omega (arith, calm, rose))
  host_sample (Refused reason) e rose = let calm = e.2.calm in absurd (omega (arith, calm, rose))
  host_sample Made e rose = absurd e
  host_sample Words e rose = absurd e
  host_sample ReadFault e rose = absurd e
  host_sample (BadImage fault) e rose = absurd e
  host_sample (BadSchedule bad) e rose = absurd e
  host_sample (BadEntry number) e rose = absurd e
  host_sample (BadNumber count) e rose = absurd e

  pub out_sample : (end : End) → EndsSample job call end → call.out_before < call.out_after → end ≡ WriteFault
  out_sample (Ran over) e rose = let calm = e.4 in absurd (omega (arith, calm, rose))
  out_sample WriteFault e rose = refl
  out_sample NoMemory e rose = absurd (neither e.0 (λ n. let calm = n.calm in omega (arith, calm, rose)) (λ r. let calm = r.1 in omega (arith, calm, rose)))
  out_sample (Refused reason) e rose = let calm = e.1.calm in absurd (omega (arith, calm, rose))
  out_sample Made e rose = absurd e
  out_sample Words e rose = absurd e
  out_sample ReadFault e rose = absurd e
  out_sample (BadImage fault) e rose = absurd e
  out_sample (BadSchedule bad) e rose = absurd e
  out_sample (BadEntry number) e rose = absurd e
  out_sample (BadNumber count) e rose = absurd e

  pub complete_sample : HasProgram (sample_text job.number) → (Faulted call.out_before call.out_after → ⊥) → (end : End) → EndsSample job call end → ((over : Over) × (end ≡ Ran over)) ⊎ (end ≡ NoMemory)
  complete_sample has calm (Ran over) e = inl (over, refl)
  complete_sample has calm WriteFault e = absurd (calm e.1)
  complete_sample has calm NoMemory e = inr refl
  complete_sample has calm (Refused reason) e = absurd (never_both (sample_text job.number) has.0 reason has.1 has.2 e.0)
  complete_sample has calm Made e = absurd e
  complete_sample has calm Words e = absurd e
  complete_sample has calm ReadFault e = absurd e
  complete_sample has calm (BadImage fault) e = absurd e
  complete_sample has calm (BadSchedule bad) e = absurd e
  complete_sample has calm (BadEntry number) e = absurd e
  complete_sample has calm (BadNumber count) e = absurd e
