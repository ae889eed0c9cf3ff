-- The mode `step`: from what its stages say to why it ends as it does.
use Rattle.std.proofs.Common.{◌≡◌, ℕ, ◌+◌, ◌^◌, ◌≤◌, List, length, take, Option, Some, None, Result, Ok, Err, refl, sym, ap, ◌∙◌, subst, arith, inl, inr}
use Rattle.std.specs.Prelude.{◌⊎◌, IfOk}
use Rattle.std.proofs.Math.Nat.{min-le_right}
use Rattle.std.proofs.lemmas.List.{length-take, take_all}
use Rattle.al_event.specs.declared.entry.Entry.{Entry}
use Rattle.al_host.specs.Outside.{Content, Faulted, text_under}
use Rattle.al_words.specs.declared.job.Job.{Job}
use Rattle.al_typed.specs.declared.program.Program.{Program}
use Rattle.al_typed.specs.Measures.{IsWithin}
use Rattle.al_front.specs.Accepted.{IsAccepted, IsRefused as IsTextRefused}
use Rattle.al_front.specs.declared.refused.Refused.{Refused as Reason}
use Rattle.al_front.specs.declared.refused.FrontStop.{FrontStop}
use Rattle.al_front.specs.declared.refused.FrontStop.TheVariants as stop
use Rattle.al_show.specs.declared.walking.ShowStop.{ShowStop}
use Rattle.al_show.specs.declared.walking.ShowStop.TheVariants as show
use Rattle.al_counts.specs.Counts.{most_entries}
use Rattle.al_show.specs.Room.{HasRoom}
use Rattle.al_show.specs.Walks.{StopsShow}
use Rattle.alef_texts.specs.Call.{Call, IsRead, DidNothing, HostFails, LacksText, text_in}
use Rattle.alef_texts.specs.CheckMode.{most_of_text}
use Rattle.alef_texts.specs.Load.{KeepsTexts, LacksBytes, IsScheduleRead, LacksSchedule}
use Rattle.alef_texts.specs.StepMode.{EndsStep, EndsShow, HasText, HasBoth, HasNoSchedule, MadeNothing, IsProgramRead, IsFound, bytes_of_region, first_of, made_of, end_of_show}
use Rattle.alef_texts.specs.declared.report.End.{End}
use Rattle.alef_texts.specs.declared.report.End.TheVariants.{Ran, Made, Words, ReadFault, Refused, BadImage, BadSchedule, BadEntry, BadNumber, WriteFault, NoMemory}
use Rattle.al_sound_texts.proofs.Texts.{accepted_is_sound}
use Rattle.alef_texts.proofs.Checks.{accepted_whole, refused_whole}

-- ---- texts that stay

text_kept : (o o' : Option Content) (file : List ℕ) → KeepsTexts o o' → text_in o' file ≡ text_in o file
text_kept (Some a) (Some b) file e = ap (text_under file) e
text_kept None None file e = refl
text_kept (Some a) None file e = absurd e
text_kept None (Some b) file e = absurd e

lack_kept : (o o' : Option Content) (file : List ℕ) → KeepsTexts o o' → LacksText o' file → LacksText o file
lack_kept (Some a) (Some b) file e m = sym (ap (text_under file) e) ∙ m
lack_kept None None file e m = m
lack_kept (Some a) None file e m = absurd e
lack_kept None (Some b) file e m = absurd e

lack_keeps : (o o' : Option Content) (file : List ℕ) → KeepsTexts o o' → LacksText o file → LacksText o' file
lack_keeps (Some a) (Some b) file e m = ap (text_under file) e ∙ m
lack_keeps None None file e m = m
lack_keeps (Some a) None file e m = absurd e
lack_keeps None (Some b) file e m = absurd e

-- ---- a text

module _ (file : List ℕ) (told told_after : Option Content) (faults faults_after : ℕ) (read : IsRead file most_of_text told told_after faults faults_after)
    (front : List ℕ) (f : (text : List ℕ) → text_in told file ≡ Some text → front ≡ take (2 ^ 20 + 1) text) where
  -- the front end found its program, or why it has none
  pub text_found : (found : Result Program FrontStop) → KeepsTexts told told_after → IfOk found (λ p. IsAccepted front p × IsWithin p)
      → ((r : Reason) → found ≡ Err (stop.Refused r) → IsTextRefused front r) → IsFound file found told told_after faults faults_after
  text_found (Ok p) same is refused = record {
    text = record { found = read.found; accepted = λ text named. accepted_whole text front (f text named) p is.0; within = is.1 };
    same = same;
    calm = read.calm;
  }
  text_found (Err (stop.Refused r)) same is refused = (read, λ text named. refused_whole text front (f text named) r (refused r refl))
  text_found (Err stop.NoMemory) same is refused = read.calm

-- ---- what may be shown

-- no number lacks room in runs of the program of a text that is accepted within the limits
pub found_has_room : (text : List ℕ) (found : Result Program FrontStop) → IfOk found (λ p. IsAccepted text p × IsWithin p) → IfOk found HasRoom
found_has_room text (Ok p) h = let laws = accepted_is_sound text p h.0 in record { sound = laws.0; within = h.1; short = laws.1 }
found_has_room text (Err stop) h = h

-- the first of few entries are few
pub few_taken : (n : ℕ) (h : List Entry) → length h ≤ most_entries → length (take n h) ≤ most_entries
few_taken n h few = let all = length-take n h in let least = min-le_right n (length h) in omega (arith, all, least, few)

-- ---- what is shown

-- nothing is written where no world is shown
pub show_stopped : (p : Program) (region : ℕ) (h : List Entry) (why : ShowStop) (end : End) (got : Option (List ℕ)) (faults : ℕ) → StopsShow p region h why → end ≡ end_of_show why → EndsShow p region h end got got faults faults
show_stopped p region h why end got faults stops e = let E : End → Type 0 = λ end. EndsShow p region h end got got faults faults in subst E (sym e) (on why stops)
  where
    on : (why : ShowStop) → StopsShow p region h why → EndsShow p region h (end_of_show why) got got faults faults
    on (show.NotPermitted k) s = (s, refl, refl)
    on show.NoMemory s = (refl, refl)

-- ---- the whole

module _ (job : Job) (call : Call) where
  -- the text was not read
  pub no_bytes : (file : List ℕ) (end why : End) → file ≡ job.file → end ≡ why → LacksBytes file why call.told call.host_before call.host_after → DidNothing call → EndsStep job call end
  no_bytes file end why named e (inl l) nothing =
      let F : List ℕ → Type 0 = λ file. HostFails file call.told call.host_before call.host_after in
      let E : End → Type 0 = EndsStep job call in
      subst E (sym (e ∙ l.0)) (inl (subst F named l.1), nothing)
  no_bytes file end why named e (inr l) nothing = let E : End → Type 0 = EndsStep job call in subst E (sym (e ∙ l.0)) (l.1, nothing)

  module _ (p : Program) (file schedule : List ℕ) (middle : Option Content) (faults : ℕ) (file_is : file ≡ job.file) (schedule_is : schedule ≡ job.schedule)
      (read : IsProgramRead file p call.told middle call.host_before faults) where
    has_text : HasText job.file p call.told
    has_text = let P : List ℕ → Type 0 = λ file. HasText file p call.told in subst P file_is read.text

    -- nothing came of the schedule
    pub no_schedule : (end why : End) → end ≡ why → LacksSchedule schedule why middle faults call.host_after → DidNothing call → EndsStep job call end
    no_schedule end why e l nothing =
        let S : List ℕ → Type 0 = λ schedule. LacksSchedule schedule why middle faults call.host_after in
        let E : End → Type 0 = EndsStep job call in
        subst E (sym e) (on why (subst S schedule_is l))
      where
        fails : HostFails job.schedule middle faults call.host_after → HostFails job.file call.told call.host_before call.host_after ⊎ HasNoSchedule job call
        fails (inl faulted) = let P : ℕ → Type 0 = λ n. Faulted n call.host_after in inl (inl (subst P read.calm faulted))
        fails (inr lacks) = inr (record { program = p; text = has_text; lacks = lack_kept call.told middle job.schedule read.same lacks })

        on : (why : End) → LacksSchedule job.schedule why middle faults call.host_after → EndsStep job call why
        on ReadFault l = (fails l, nothing)
        on (BadSchedule fault) l = (
          record { program = p; text = has_text; found = λ lacks. l.found (lack_keeps call.told middle job.schedule read.same lacks) },
          (λ text named. l.text text (text_kept call.told middle job.schedule read.same ∙ named)),
          l.calm ∙ read.calm,
          nothing,
        )
        on NoMemory l = (l ∙ read.calm, nothing)
        on (BadImage fault) l = absurd l
        on (BadEntry number) l = absurd l
        on (BadNumber count) l = absurd l
        on Made l = absurd l
        on Words l = absurd l
        on (Refused reason) l = absurd l
        on WriteFault l = absurd l
        on (Ran over) l = absurd l

    module _ (h : List Entry) (entries : IsScheduleRead schedule h middle call.told_after faults call.host_after) where
      pub both : HasBoth job p h call
      both =
          let S : List ℕ → Type 0 = λ schedule. IsScheduleRead schedule h middle call.told_after faults call.host_after in
          let it : S job.schedule = subst S schedule_is entries in
          record {
            program = has_text;
            found = λ lacks. it.found (lack_keeps call.told middle job.schedule read.same lacks);
            entries = λ text named. it.text text (text_kept call.told middle job.schedule read.same ∙ named);
            left = λ text named. it.left text (text_kept call.told middle job.schedule read.same ∙ named);
            calm = it.calm ∙ read.calm;
          }

      module _ (enough : job.number ≤ length h) (list : List Entry) (list_is : list ≡ first_of job h) (nothing : MadeNothing call) where
        shows : (end : End) → call.schedule ≡ take (made_of end (length list)) list
            → EndsShow p (bytes_of_region job) (first_of job h) end call.got_before call.got_after call.out_before call.out_after → EndsStep job call end
        shows Made e (text, shown, w, calm) =
            (p, h, text, record { read = (both, enough); shown = shown; schedule = e ∙ take_all (length list) list (omega arith) ∙ list_is; rest = nothing }, w, calm)
        shows WriteFault e (text, shown, w, fault) =
            (p, h, text, record { read = (both, enough); shown = shown; schedule = e ∙ take_all (length list) list (omega arith) ∙ list_is; rest = nothing }, w, fault)
        shows (BadEntry k) e (refused, got, calm) =
            (p, h, record { read = (both, enough); refused = refused; schedule = e ∙ ap (take k) list_is; rest = nothing; wrote = record { got = got; calm = calm } })
        shows NoMemory e (got, calm) =
            (both.calm, record { schedule = e; work = nothing.work; image = nothing.image; got = got; calm = calm })
        shows (Refused reason) e s = absurd s
        shows (Ran over) e s = absurd s
        shows Words e s = absurd s
        shows ReadFault e s = absurd s
        shows (BadImage fault) e s = absurd s
        shows (BadSchedule fault) e s = absurd s
        shows (BadNumber count) e s = absurd s

        -- the world was shown, or not
        pub was_shown : (end why : End) (region : ℕ) → end ≡ why → region ≡ bytes_of_region job → call.schedule ≡ take (made_of why (length list)) list
            → EndsShow p region list why call.got_before call.got_after call.out_before call.out_after → EndsStep job call end
        was_shown end why region e region_is made s =
            let E : End → Type 0 = EndsStep job call in
            let R : ℕ → Type 0 = λ region. EndsShow p region list why call.got_before call.got_after call.out_before call.out_after in
            let L : List Entry → Type 0 = λ list. EndsShow p (bytes_of_region job) list why call.got_before call.got_after call.out_before call.out_after in
            subst E (sym e) (shows why made (subst L list_is (subst R region_is s)))
