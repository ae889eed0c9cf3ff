-- Each talk's name stands in what went at most once.
use Rattle.std.proofs.Common.{◌≡◌, ◌≢◌, ℕ, ◌+◌, ◌<◌, List, [], ◌∷◌, ◌++◌, Bool, true, false, cond, Option, Some, None, Result, Ok, Err, refl, sym, ap, ◌∙◌, subst, subst₂, ◌⊎◌, inl, inr, arith, append-nil}
use Rattle.std.specs.List.{AllByRecursion}
use Rattle.al_base.specs.declared.trap.Trap.{Trap}
use Rattle.al_base.specs.declared.trap.Trap.TheVariants.{Chan, Busy}
use Rattle.al_event.specs.Store.{Live}
use Rattle.al_event.specs.declared.act.Branch.{Branch}
use Rattle.al_event.specs.declared.act.Act.{Act}
use Rattle.al_event.specs.declared.act.Act.TheVariants.{FreeChan, Talk}
use Rattle.al_event.specs.declared.entry.Entry.{Entry}
use Rattle.al_world.specs.Channels.{Channel, Offer, channel, gives_up_one, is_waited_for, with_channel, without_values}
use Rattle.al_world.specs.Talks.{Went, Transfer, Put, Get, Lost, Fired, fires, meets, offers_from}
use Rattle.al_world.specs.Control.{Kind}
use Rattle.al_world.specs.World.{TaskName, TalkName, same_talker, World, Shared, Effect, at_proc}
use Rattle.al_world.specs.Actions.{acts, performs, or_trap, answer, with_book, with_went, lost, goes, waits_for, talk_of}
use Rattle.al_world.specs.Step.{step, opening_with, with_globals}
use Rattle.al_world.specs.Transfers.{EntryName, entry_name, names_in, IsDistinct, IsOnce, IsIn}
use Rattle.al_world.proofs.Maps.{at_proc_cases}
use Rattle.al_world.proofs.Lists.{all_to, all_append, all_filter, all_at, all_in}
use Rattle.al_world.proofs.Cases.{got_some, IfSome', at_zero_cases, talks_cases}
use Rattle.al_world.proofs.Runs.{along}
use Rattle.al_world.proofs.Local.{step_by}
use Rattle.al_world.proofs.Fires.{fires_ways, Ways, IsPartner}
use Rattle.al_world.specs.Sound.{Offers}
use Rattle.al_world.proofs.Roles.{Without, without_others}

abbrev Log : Type 0
Log = List (Went TalkName)

pub names_in-append : (xs ys : Log) → names_in (xs ++ ys) ≡ names_in xs ++ names_in ys
names_in-append [] ys = refl
names_in-append (Transfer c s r words ∷ xs) ys = ap (λ l. entry_name s ∷ entry_name r ∷ l) (names_in-append xs ys)
names_in-append (Put c s words ∷ xs) ys = ap (λ l. entry_name s ∷ l) (names_in-append xs ys)
names_in-append (Get c r words ∷ xs) ys = ap (λ l. entry_name r ∷ l) (names_in-append xs ys)
names_in-append (Lost c values ∷ xs) ys = names_in-append xs ys

distinct-append : {X : Type 0} (xs ys : List X) → IsDistinct xs → IsDistinct ys → AllByRecursion (λ x. AllByRecursion (λ y. x ≢ y) ys) xs → IsDistinct (xs ++ ys)
distinct-append [] ys d e h = e
distinct-append (x ∷ xs) ys d e h = (all_append (λ y. x ≢ y) xs ys d.0 h.0, distinct-append xs ys d.1 e h.1)

-- the names of talks that were asked: below the number of entries of their procs
abbrev IsAsked : (ℕ → ℕ) → EntryName → Type 0
IsAsked entries n = n.entry < entries n.proc

-- what went has no name twice; all names that went or wait were asked, none that waits went, and branches that wait under
-- one name are of one task
record Named (names : List EntryName) (waiting : Offers) (entries : ℕ → ℕ) : Type 0 where
  distinct : IsDistinct names
  asked : AllByRecursion (IsAsked entries) names
  waits_asked : AllByRecursion (λ (o : Offer TalkName). IsAsked entries (entry_name o.by)) waiting
  apart : AllByRecursion (λ (o : Offer TalkName). AllByRecursion (λ n. n ≢ entry_name o.by) names) waiting
  one_task : AllByRecursion (λ (o : Offer TalkName). AllByRecursion (λ (x : Offer TalkName). entry_name x.by ≡ entry_name o.by → x.by.task ≡ o.by.task) waiting) waiting

-- one entry more of proc p
abbrev one_more : ℕ → (ℕ → ℕ) → ℕ → ℕ
one_more p entries = at_proc p (entries p + 1) entries

still_asked : (p : ℕ) (entries : ℕ → ℕ) (n : EntryName) → IsAsked entries n → IsAsked (one_more p entries) n
still_asked p entries n h =
    at_proc_cases (λ k. n.entry < k) p n.proc (entries p + 1) entries (λ e. let x : entries n.proc ≡ entries p = ap entries e in omega arith) (λ _. h)

-- the name of this proc's next entry
abbrev next_name : ℕ → (ℕ → ℕ) → EntryName
next_name p entries = record { proc = p; entry = entries p }

now_asked : (p : ℕ) (entries : ℕ → ℕ) → IsAsked (one_more p entries) (next_name p entries)
now_asked p entries =
    at_proc_cases (λ k. entries p < k) p p (entries p + 1) entries (λ _. omega arith) (λ ne. absurd (ne refl))

is_new : (p : ℕ) (entries : ℕ → ℕ) (n : EntryName) → IsAsked entries n → n ≢ next_name p entries
is_new p entries n h e =
    let x : n.entry ≡ entries p = ap (λ (m : EntryName). m.entry) e in
    let y : entries n.proc ≡ entries p = ap (λ (m : EntryName). entries m.proc) e in
    absurd (omega arith)

-- what holds of a talk holds of each branch of it that waits
pub fresh_offers : (t : TalkName) (i : ℕ) (bs : List Branch) (P : TalkName → Type 0) → P t → AllByRecursion (λ (o : Offer TalkName). P o.by) (offers_from t i bs)
fresh_offers t i [] P x = tt
fresh_offers t i (b ∷ bs) P x = (x, fresh_offers t (i + 1) bs P x)

module _ (names : List EntryName) (waiting : Offers) (entries : ℕ → ℕ) (h : Named names waiting entries) (p : ℕ) where
  -- an entry at which nothing goes and nothing blocks
  named_same : Named names waiting (one_more p entries)
  named_same = record {
    distinct = h.distinct;
    asked = all_to _ _ (still_asked p entries) names h.asked;
    waits_asked = all_to _ _ (λ (o : Offer TalkName) x. still_asked p entries (entry_name o.by) x) waiting h.waits_asked;
    apart = h.apart;
    one_task = h.one_task;
  }

  new_everywhere : AllByRecursion (λ n. n ≢ next_name p entries) names
  new_everywhere = all_to _ _ (is_new p entries) names h.asked

  -- a talk blocks at this entry
  module _ (t : TalkName) (is : entry_name t ≡ next_name p entries) where
    named_blocks : (bs : List Branch) → Named names (waiting ++ offers_from t 0 bs) (one_more p entries)
    named_blocks bs = record {
      distinct = h.distinct;
      asked = named_same.asked;
      waits_asked = all_append _ waiting _ named_same.waits_asked (fresh_offers t 0 bs (λ n. IsAsked (one_more p entries) (entry_name n)) (subst (IsAsked (one_more p entries)) (sym is) (now_asked p entries)));
      apart = all_append _ waiting _ h.apart (fresh_offers t 0 bs (λ n. AllByRecursion (λ m. m ≢ entry_name n) names) (subst (λ k. AllByRecursion (λ m. m ≢ k) names) (sym is) new_everywhere));
      one_task = all_append _ waiting _
          old_first
          (fresh_offers t 0 bs (λ n. AllByRecursion (λ (x : Offer TalkName). entry_name x.by ≡ entry_name n → x.by.task ≡ n.task) (waiting ++ offers_from t 0 bs)) (all_append (λ (x : Offer TalkName). entry_name x.by ≡ entry_name t → x.by.task ≡ t.task) waiting (offers_from t 0 bs) (all_to (λ (o : Offer TalkName). IsAsked entries (entry_name o.by)) (λ (x : Offer TalkName). entry_name x.by ≡ entry_name t → x.by.task ≡ t.task) (λ x a e. absurd (is_new p entries (entry_name x.by) a (e ∙ is))) waiting h.waits_asked) (fresh_offers t 0 bs (λ n. entry_name n ≡ entry_name t → n.task ≡ t.task) (λ _. refl))));
    }
      where
        old_one : (o : Offer TalkName) → IsAsked entries (entry_name o.by) → AllByRecursion (λ (x : Offer TalkName). entry_name x.by ≡ entry_name o.by → x.by.task ≡ o.by.task) (offers_from t 0 bs)
        old_one o a = fresh_offers t 0 bs (λ n. entry_name n ≡ entry_name o.by → n.task ≡ o.by.task) (λ e. absurd (is_new p entries (entry_name o.by) a (sym e ∙ is)))

        old_first : AllByRecursion (λ (o : Offer TalkName). AllByRecursion (λ (x : Offer TalkName). entry_name x.by ≡ entry_name o.by → x.by.task ≡ o.by.task) (waiting ++ offers_from t 0 bs)) waiting
        old_first =
            all_in waiting _ (λ (o : Offer TalkName) i. all_append _ waiting _ (all_at _ waiting o h.one_task i) (old_one o (all_at _ waiting o h.waits_asked i)))

    -- a talk goes at this entry, with the buffer
    named_alone : Named (names ++ entry_name t ∷ []) waiting (one_more p entries)
    named_alone = record {
      distinct = distinct-append names (entry_name t ∷ []) h.distinct (tt, tt) (all_to _ _ (λ n x. (subst (λ k. n ≢ k) (sym is) (is_new p entries n x), tt)) names h.asked);
      asked = all_append _ names (entry_name t ∷ []) named_same.asked (subst (IsAsked (one_more p entries)) (sym is) (now_asked p entries), tt);
      waits_asked = named_same.waits_asked;
      apart = all_in waiting _ (λ (o : Offer TalkName) i. all_append _ names (entry_name t ∷ []) (all_at _ waiting o h.apart i) ((λ e. is_new p entries (entry_name o.by) (all_at _ waiting o h.waits_asked i) (sym e ∙ is)), tt));
      one_task = h.one_task;
    }

    -- or with a talk that waits, in either order
    module _ (o : Offer TalkName) (waits : IsIn waiting o) where
      o_asked : IsAsked entries (entry_name o.by)
      o_asked = all_at _ waiting o h.waits_asked waits

      o_apart : AllByRecursion (λ n. n ≢ entry_name o.by) names
      o_apart = all_at _ waiting o h.apart waits

      t_not_o : entry_name t ≢ entry_name o.by
      t_not_o e = is_new p entries (entry_name o.by) o_asked (sym e ∙ is)

      abbrev IsBoth : List EntryName → Type 0
      IsBoth two = (two ≡ entry_name t ∷ entry_name o.by ∷ []) ⊎ (two ≡ entry_name o.by ∷ entry_name t ∷ [])

      -- what holds of both names holds of the two
      both : (P : EntryName → Type 0) (two : List EntryName) → IsBoth two → P (entry_name t) → P (entry_name o.by) → AllByRecursion P two
      both P two (inl e) x y = subst (AllByRecursion P) (sym e) (x, (y, tt))
      both P two (inr e) x y = subst (AllByRecursion P) (sym e) (y, (x, tt))

      two_distinct : (two : List EntryName) → IsBoth two → IsDistinct two
      two_distinct two (inl e) = subst IsDistinct (sym e) ((t_not_o, tt), (tt, tt))
      two_distinct two (inr e) = subst IsDistinct (sym e) (((λ x. t_not_o (sym x)), tt), (tt, tt))

      -- what is known of each branch that waits
      record Facts (x : Offer TalkName) : Type 0 where
        was_asked : IsAsked entries (entry_name x.by)
        was_apart : AllByRecursion (λ n. n ≢ entry_name x.by) names
        of_one : entry_name x.by ≡ entry_name o.by → x.by.task ≡ o.by.task

      facts : AllByRecursion Facts waiting
      facts =
          all_in waiting Facts (λ (x : Offer TalkName) i. record { was_asked = all_at _ waiting x h.waits_asked i; was_apart = all_at _ waiting x h.apart i; of_one = all_at _ waiting x (all_at _ waiting o h.one_task waits) i })

      left_apart : (two : List EntryName) → IsBoth two → (ws : Offers) → AllByRecursion Facts ws → AllByRecursion (λ (x : Offer TalkName). x.by.task ≢ o.by.task) ws → AllByRecursion (λ (x : Offer TalkName). AllByRecursion (λ n. n ≢ entry_name x.by) (names ++ two)) ws
      left_apart two b [] f g = tt
      left_apart two b (x ∷ xs) f g = (
        all_append _ names two f.0.was_apart (both (λ n. n ≢ entry_name x.by) two b (λ e. is_new p entries (entry_name x.by) f.0.was_asked (sym e ∙ is)) (λ e. g.0 (f.0.of_one (sym e)))),
        left_apart two b xs f.1 g.1,
      )

      named_together : (two : List EntryName) → IsBoth two → Named (names ++ two) (Without o.by waiting) (one_more p entries)
      named_together two b = record {
        distinct = distinct-append names two h.distinct (two_distinct two b) (all_in names _ (λ n i. both (λ k. n ≢ k) two b (subst (λ k. n ≢ k) (sym is) (is_new p entries n (all_at _ names n h.asked i))) (all_at _ names n o_apart i)));
        asked = all_append _ names two named_same.asked (both (IsAsked (one_more p entries)) two b (subst (IsAsked (one_more p entries)) (sym is) (now_asked p entries)) (still_asked p entries (entry_name o.by) o_asked));
        waits_asked = all_filter _ _ waiting named_same.waits_asked;
        apart = left_apart two b (Without o.by waiting) (all_filter _ _ waiting facts) (without_others o.by waiting);
        one_task = all_filter _ _ waiting (all_to _ _ (λ (x : Offer TalkName) y. all_filter _ _ waiting y) waiting h.one_task);
      }

-- ---- each effect

abbrev NamedAs : Log → Offers → (ℕ → ℕ) → Type 0
NamedAs went waiting entries = Named (names_in went) waiting entries

-- after an effect of proc p's entry
record KeepsNames (p : ℕ) (entries : ℕ → ℕ) (e : Effect) : Type 0 where
  kept : NamedAs e.shared.went e.shared.book.waiting (one_more p entries)
  counts : e.shared.entries_of ≡ entries

module _ (s : Shared) (t : TaskName) (q : NamedAs s.went s.book.waiting s.entries_of) where
  abbrev Keeps' : Effect → Type 0
  Keeps' e = KeepsNames t.proc s.entries_of e

  names_or_trap : {X : Type 0} (r : Result X Trap) (f : X → Effect) → ((x : X) → KeepsNames t.proc s.entries_of (f x)) → KeepsNames t.proc s.entries_of (or_trap s t r f)
  names_or_trap (Ok x) f h = h x
  names_or_trap (Err trap) f h = record { kept = named_same _ _ _ q t.proc; counts = refl }

  names_if : (b : Bool) (x y : Effect) → KeepsNames t.proc s.entries_of x → KeepsNames t.proc s.entries_of y → KeepsNames t.proc s.entries_of (cond b x y)
  names_if true x y h k = h
  names_if false x y h k = k

  -- what went and the waiting list stay
  names_same : (e : Effect) → s.went ≡ e.shared.went → s.book.waiting ≡ e.shared.book.waiting → s.entries_of ≡ e.shared.entries_of → KeepsNames t.proc s.entries_of e
  names_same e a b c = record { kept = subst₂ (λ x y. NamedAs x y (one_more t.proc s.entries_of)) a b (named_same _ _ _ q t.proc); counts = sym c }

  names_waits : (bs : List Branch) → Keeps' (waits_for s t bs)
  names_waits bs = record { kept = named_blocks _ _ _ q t.proc (talk_of s t) refl bs; counts = refl }

  record KeepsFired (f : Fired TalkName) : Type 0 where
    kept : NamedAs (s.went ++ f.went) f.book.waiting (one_more t.proc s.entries_of)

  alone : (f : Fired TalkName) → names_in f.went ≡ entry_name (talk_of s t) ∷ [] → f.book.waiting ≡ s.book.waiting → KeepsFired f
  alone f n w = record {
    kept =
        let e : names_in (s.went ++ f.went) ≡ names_in s.went ++ entry_name (talk_of s t) ∷ [] = names_in-append s.went f.went ∙ ap (λ l. names_in s.went ++ l) n in
        subst₂ (λ x y. Named x y (one_more t.proc s.entries_of)) (sym e) (sym w) (named_alone _ _ _ q t.proc (talk_of s t) refl);
  }

  together : (o : Offer TalkName) → IsIn s.book.waiting o → (f : Fired TalkName) → (names_in f.went ≡ entry_name (talk_of s t) ∷ entry_name o.by ∷ []) ⊎ (names_in f.went ≡ entry_name o.by ∷ entry_name (talk_of s t) ∷ []) → f.book.waiting ≡ Without o.by s.book.waiting → KeepsFired f
  together o i f n w = record {
    kept =
        subst₂ (λ x y. Named x y (one_more t.proc s.entries_of)) (sym (names_in-append s.went f.went)) (sym w) (named_together _ _ _ q t.proc (talk_of s t) refl o i (names_in f.went) n);
  }

  names_goes : (bs : List Branch) (pick : ℕ) (f : Fired TalkName) → fires same_talker s.book (talk_of s t) bs pick ≡ Some f → Keeps' (goes s t f)
  names_goes bs pick f e = record { kept = (fires_ways s.book bs same_talker (talk_of s t) KeepsFired ways f pick e).kept; counts = refl }
    where
      meets_way : (i : ℕ) (b : Branch) (o : Offer TalkName) (send : Option (List ℕ)) → IsPartner s.book.waiting b o → KeepsFired (meets same_talker s.book (talk_of s t) i b.chan send o)
      meets_way i b o None p = together o p.waits _ (inr refl) refl
      meets_way i b o (Some words) p = together o p.waits _ (inl refl) refl

      ways : Ways s.book bs same_talker (talk_of s t) KeepsFired
      ways = record {
        q_meets = λ i b ch o at z p. meets_way i b o b.send p;
        q_hands_over = λ i b ch words o at z sn h p. together o p.waits _ (inl refl) refl;
        q_puts_in = λ i b ch words at z sn. alone _ refl refl;
        q_takes_out = λ i b ch words rest at z sn h. alone _ refl refl;
        q_lets_in = λ i b ch words rest o at z sn h p. together o p.waits _ (inl refl) refl;
      }

  names_lost : (c : ℕ) (values : List (List ℕ)) → NamedAs (s.went ++ Lost c values ∷ []) s.book.waiting (one_more t.proc s.entries_of)
  names_lost c values =
      subst (λ x. Named x s.book.waiting (one_more t.proc s.entries_of)) (sym (names_in-append s.went (Lost c values ∷ []) ∙ append-nil _)) (named_same _ _ _ q t.proc)

  given_one : (c : ℕ) (o : Option Channel) → Keeps' (or_trap s t (gives_up_one s.book c o) (λ book. answer (with_went (lost s c) (with_book book s)) t []))
  given_one c None = record { kept = names_lost c _; counts = refl }
  given_one c (Some ch) = on ch.given_up (is_waited_for s.book c)
    where
      on : (u v : Bool) → Keeps' (or_trap s t (cond u (Err Chan) (cond v (Err Busy) (Ok (record s.book { channels = with_channel c without_values s.book.channels })))) (λ book. answer (with_went (lost s c) (with_book book s)) t []))
      on true v = record { kept = named_same _ _ _ q t.proc; counts = refl }
      on false true = record { kept = named_same _ _ _ q t.proc; counts = refl }
      on false false = record { kept = names_lost c _; counts = refl }

  names_acts : (act : Act) → Keeps' (acts s t act)
  names_acts (FreeChan c) = given_one c (channel s.book.channels c)
  names_acts (Talk bs) = names_waits bs
  names_acts act = search (names_if, names_or_trap, names_same)

  names_performs : (act : Act) (pick : ℕ) → IfSome' (KeepsNames t.proc s.entries_of) (performs s t act pick)
  names_performs (Talk bs) pick =
      talks_cases (KeepsNames t.proc s.entries_of) s t bs pick (record { kept = named_same _ _ _ q t.proc; counts = refl }) (λ _. names_waits bs) (λ f fine e. names_goes bs pick f e)
  names_performs act pick = at_zero_cases (KeepsNames t.proc s.entries_of) s t pick _ (names_acts act)

-- ---- each entry, and each run

module _ (K : Kind) where
  abbrev NamesIn : World K → Type 0
  NamesIn w = NamedAs w.shared.went w.shared.book.waiting w.shared.entries_of

  names_step : (w v : World K) (e : Entry) → NamesIn w → step K w e ≡ Some v → NamesIn v
  names_step w v e q h =
      let x = step_by K w v e h in
      let k = got_some (KeepsNames x.task.proc w.shared.entries_of) _ x.effect (names_performs w.shared x.task q _ e.pick) x.comes in
      subst NamesIn x.is (subst (λ n. NamedAs x.effect.shared.went x.effect.shared.book.waiting (one_more x.task.proc n)) (sym k.counts) k.kept)

  pub is_once : IsOnce K
  is_once region globals start h w r = (along K NamesIn names_step h _ w (at_start (with_globals region globals [])) r).distinct
    where
      at_start : (o : Option (List Live)) → NamedAs (opening_with region o).went (opening_with region o).book.waiting (opening_with region o).entries_of
      at_start None = record { distinct = tt; asked = tt; waits_asked = tt; apart = tt; one_task = tt }
      at_start (Some store) = record { distinct = tt; asked = tt; waits_asked = tt; apart = tt; one_task = tt }
