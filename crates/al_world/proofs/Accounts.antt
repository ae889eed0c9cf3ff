-- Each talk that did not trap stands in what went, or waits.
use Rattle.std.proofs.Common.{◌≡◌, ◌≢◌, ℕ, zero, suc, List, [], ◌∷◌, ◌++◌, Bool, true, false, cond, Option, Some, None, Result, Ok, Err, refl, sym, ap, ◌∙◌, subst, subst₂, ◌⊎◌, inl, inr}
use Rattle.std.specs.List.{AllByRecursion}
use Rattle.std.proofs.lemmas.Option.{same_Some}
use Rattle.al_base.specs.declared.trap.Trap.{Trap}
use Rattle.al_base.specs.declared.trap.Trap.TheVariants.{Chan, Busy}
use Rattle.al_event.specs.declared.act.Start.{Start}
use Rattle.al_event.specs.Store.{Live}
use Rattle.al_event.specs.declared.act.Branch.{Branch}
use Rattle.al_event.specs.declared.act.Act.{Act}
use Rattle.al_event.specs.declared.act.Act.TheVariants.{Talk, FreeChan}
use Rattle.al_event.specs.declared.entry.Entry.{Entry}
use Rattle.al_world.specs.Channels.{Channel, Offer, Book, channel, with_channel, without_values, gives_up, gives_up_one, is_waited_for, has_bad, ready, is_some_ready}
use Rattle.al_world.specs.Talks.{Went, Woken, Fired, offers_from}
use Rattle.al_world.specs.Control.{Kind}
use Rattle.al_world.specs.World.{TaskName, TalkName, Shared, World, Goes, Effect}
use Rattle.al_world.specs.Actions.{acts, performs, or_trap, answer, with_book, with_went, lost, goes, waits_for, talk_of, at_zero, trapped, goes_or_waits}
use Rattle.al_world.specs.Step.{after, step, run, opening, opening_with, with_globals}
use Rattle.al_world.specs.Transfers.{EntryName, entry_name, names_in, IsIn, GoesOn, Takes, IsAccounted, IsTalkEntry, AfterTalk, IsOnceGone}
use Rattle.al_world.proofs.Lists.{all_to, all_append, all_filter, all_at, all_in, in_left, in_right}
use Rattle.al_world.proofs.Cases.{got_some, IfSome', performs_cases}
use Rattle.al_world.proofs.Runs.{run_none, along}
use Rattle.al_world.proofs.Local.{IsStepBy, step_by}
use Rattle.al_world.specs.Sound.{Offers, IsTalking}
use Rattle.al_world.proofs.Roles.{Without, SoundWorld, sound_step, sound_opening, Withdrawn, IsWithdrawal, fired_withdrawal}
use Rattle.al_world.proofs.Names.{names_in-append, fresh_offers}
use Rattle.al_world.proofs.Handing.{is_taken, is_left_or_stays}

-- ---- what went only grows

record Grows (s : Shared) (e : Effect) : Type 0 where
  grows : (n : EntryName) → IsIn (names_in s.went) n → IsIn (names_in e.shared.went) n

module _ (s : Shared) (t : TaskName) where
  grows_or_trap : {X : Type 0} (r : Result X Trap) (f : X → Effect) → ((x : X) → Grows s (f x)) → Grows s (or_trap s t r f)
  grows_or_trap (Ok x) f h = h x
  grows_or_trap (Err trap) f h = record { grows = λ n i. i }

  grows_if : (b : Bool) (x y : Effect) → Grows s x → Grows s y → Grows s (cond b x y)
  grows_if true x y h k = h
  grows_if false x y h k = k

  grows_same : (e : Effect) → s.went ≡ e.shared.went → Grows s e
  grows_same e h = record { grows = λ n i. subst (λ l. IsIn (names_in l) n) h i }

  grows_more : (e : Effect) (more : List (Went TalkName)) → s.went ++ more ≡ e.shared.went → Grows s e
  grows_more e more h = record { grows = λ n i. subst (λ l. IsIn (names_in l) n) h (subst (λ l. IsIn l n) (sym (names_in-append s.went more)) (in_left (names_in s.went) (names_in more) n i)) }

  grows_given : (c : ℕ) (r : Result (Book TalkName) Trap) → Grows s (or_trap s t r (λ book. answer (with_went (lost s c) (with_book book s)) t []))
  grows_given c (Ok book) = grows_more _ (lost s c) refl
  grows_given c (Err trap) = grows_same _ refl

  grows_acts : (act : Act) → Grows s (acts s t act)
  grows_acts (FreeChan c) = grows_given c (gives_up s.book c)
  grows_acts act = search (grows_if, grows_or_trap, grows_same)

  grows_performs : (act : Act) (pick : ℕ) → IfSome' (Grows s) (performs s t act pick)
  grows_performs act pick = performs_cases (Grows s) s t (grows_same _ refl) (λ bs k f fine e. grows_more _ f.went refl) act pick (grows_acts act)

-- ---- branches of one task are of one talk

abbrev OneTalk : Offers → Type 0
OneTalk ws = AllByRecursion (λ (o : Offer TalkName). AllByRecursion (λ (x : Offer TalkName). x.by.task ≡ o.by.task → x.by ≡ o.by) ws) ws

one_talk_filter : (u : TalkName) (ws : Offers) → OneTalk ws → OneTalk (Without u ws)
one_talk_filter u ws h = all_filter _ _ ws (all_to _ _ (λ (o : Offer TalkName) k. all_filter _ _ ws k) ws h)

-- a task of which no branch waits blocks
one_talk_blocks : (n : TalkName) (bs : List Branch) (ws : Offers) → AllByRecursion (λ (o : Offer TalkName). o.by.task ≢ n.task) ws → OneTalk ws → OneTalk (ws ++ offers_from n 0 bs)
one_talk_blocks n bs ws others h =
    all_append _ ws _
    (all_in ws _ (λ (o : Offer TalkName) i. all_append (λ (x : Offer TalkName). x.by.task ≡ o.by.task → x.by ≡ o.by) ws (offers_from n 0 bs) (all_at _ ws o h i) (fresh_offers n 0 bs (λ m. m.task ≡ o.by.task → m ≡ o.by) (λ e. absurd (all_at _ ws o others i (sym e))))))
    (fresh_offers n 0 bs (λ m. AllByRecursion (λ (x : Offer TalkName). x.by.task ≡ m.task → x.by ≡ m) (ws ++ offers_from n 0 bs)) (all_append (λ (x : Offer TalkName). x.by.task ≡ n.task → x.by ≡ n) ws (offers_from n 0 bs) (all_to (λ (o : Offer TalkName). o.by.task ≢ n.task) (λ (x : Offer TalkName). x.by.task ≡ n.task → x.by ≡ n) (λ x k e. absurd (k e)) ws others) (fresh_offers n 0 bs (λ m. m.task ≡ n.task → m ≡ n) (λ _. refl))))

record KeepsOne (e : Effect) : Type 0 where
  one : OneTalk e.shared.book.waiting

module _ (s : Shared) (t : TaskName) (h : OneTalk s.book.waiting) (others : AllByRecursion (λ (o : Offer TalkName). o.by.task ≢ t) s.book.waiting) where
  one_or_trap : {X : Type 0} (r : Result X Trap) (f : X → Effect) → ((x : X) → KeepsOne (f x)) → KeepsOne (or_trap s t r f)
  one_or_trap (Ok x) f k = k x
  one_or_trap (Err trap) f k = record { one = h }

  one_if : (b : Bool) (x y : Effect) → KeepsOne x → KeepsOne y → KeepsOne (cond b x y)
  one_if true x y k l = k
  one_if false x y k l = l

  one_same : (e : Effect) → s.book.waiting ≡ e.shared.book.waiting → KeepsOne e
  one_same e w = record { one = subst OneTalk w h }

  one_goes : (f : Fired TalkName) → IsWithdrawal s.book.waiting f → KeepsOne (goes s t f)
  one_goes f w = record { one = on f.woke w.withdrawn }
    where
      on : (o : Option (Woken TalkName)) → Withdrawn s.book.waiting o f.book.waiting → OneTalk f.book.waiting
      on None e = subst OneTalk (sym e) h
      on (Some v) e = subst OneTalk (sym e.3) (one_talk_filter e.0.by s.book.waiting h)

  -- giving a channel up leaves the waiting list
  one_given : (c : ℕ) (o : Option Channel) → KeepsOne (or_trap s t (gives_up_one s.book c o) (λ book. answer (with_went (lost s c) (with_book book s)) t []))
  one_given c None = one_same _ refl
  one_given c (Some ch) = on ch.given_up (is_waited_for s.book c)
    where
      on : (u v : Bool) → KeepsOne (or_trap s t (cond u (Err Chan) (cond v (Err Busy) (Ok (record s.book { channels = with_channel c without_values s.book.channels })))) (λ book. answer (with_went (lost s c) (with_book book s)) t []))
      on true v = one_same _ refl
      on false true = one_same _ refl
      on false false = one_same _ refl

  one_acts : (act : Act) → KeepsOne (acts s t act)
  one_acts (FreeChan c) = one_given c (channel s.book.channels c)
  one_acts (Talk bs) = record { one = one_talk_blocks (talk_of s t) bs s.book.waiting others h }
  one_acts act = search (one_if, one_or_trap, one_same)

  one_performs : (act : Act) (pick : ℕ) → IfSome' KeepsOne (performs s t act pick)
  one_performs act pick = performs_cases KeepsOne s t (one_same _ refl) (λ bs k f fine e. one_goes f (fired_withdrawal s.book bs (talk_of s t) f k e)) act pick (one_acts act)

module _ (K : Kind) where
  -- a sound world in which branches of one task are of one talk
  record Tidy (w : World K) : Type 0 where
    sound : SoundWorld K w
    one : OneTalk w.shared.book.waiting

  -- no branch of a task waits that goes on
  others_wait : (w : World K) (t : TaskName) (c : K.Control) → SoundWorld K w → w.shared.over ≡ None → w.tasks t ≡ Goes c → AllByRecursion (λ (o : Offer TalkName). o.by.task ≢ t) w.shared.book.waiting
  others_wait w t c s o g =
      all_to (λ (o : Offer TalkName). IsTalking o (w.tasks o.by.task)) (λ (o : Offer TalkName). o.by.task ≢ t) (λ x k e. let a = k.is in let b = ap w.tasks e in cc) w.shared.book.waiting (s o).waiting

  tidy_step : (w v : World K) (e : Entry) → Tidy w → step K w e ≡ Some v → Tidy v
  tidy_step w v e q h =
      let x = step_by K w v e h in
      let k = got_some KeepsOne _ x.effect (one_performs w.shared x.task q.one (others_wait w x.task x.control q.sound x.over x.goes_on) (K.ask x.control (w.privates x.task.proc)).act e.pick) x.comes in
      record { sound = sound_step K w v e q.sound h; one = subst (λ (v : World K). OneTalk v.shared.book.waiting) x.is k.one }

  tidy_run : (region : ℕ) (globals : List (List ℕ)) (start : Start) (h : List Entry) (w : World K) → run K h (Some (opening K region globals start)) ≡ Some w → Tidy w
  tidy_run region globals start h w r = along K Tidy tidy_step h _ w (record { sound = sound_opening K region globals start; one = at_start (with_globals region globals []) }) r
    where
      at_start : (o : Option (List Live)) → OneTalk (opening_with region o).book.waiting
      at_start None = tt
      at_start (Some store) = tt

  -- a talk that is accounted for stays so
  accounted_step : (w v : World K) (e : Entry) (n : TalkName) → Tidy w → step K w e ≡ Some v → IsAccounted w n → IsAccounted v n
  accounted_step w v e n q h a = let x = step_by K w v e h in subst (λ v. IsAccounted v n) x.is (on x a)
    where
      on : (x : IsStepBy K w v e) → IsAccounted w n → IsAccounted (after K w x.task (K.ask x.control (w.privates x.task.proc)) x.effect) n
      on x (inl i) = inl ((got_some (Grows w.shared) _ x.effect (grows_performs w.shared x.task _ e.pick) x.comes).grows (entry_name n) i)
      on x (inr o) = left (is_left_or_stays w.shared x.task _ e.pick x.effect o.0 x.comes o.1)
        where
          left : IsIn x.effect.shared.book.waiting o.0 ⊎ GoesOn w.shared o.0 x.effect → IsAccounted (after K w x.task (K.ask x.control (w.privates x.task.proc)) x.effect) n
          left (inl i) = inr (o.0, i, o.2)
          left (inr g) =
              let same : g.chosen.by ≡ o.0.by = all_at (λ (x : Offer TalkName). x.by.task ≡ o.0.by.task → x.by ≡ o.0.by) w.shared.book.waiting g.chosen (all_at _ w.shared.book.waiting o.0 q.one o.1) g.waited g.same_task in
              inl (subst (λ l. IsIn (names_in l) (entry_name n)) (sym g.went.is) (subst (λ l. IsIn l (entry_name n)) (sym (names_in-append w.shared.went g.more)) (in_right (names_in w.shared.went) (names_in g.more) (entry_name n) (subst (λ m. IsIn (names_in g.more) (entry_name m)) (same ∙ o.2) g.named))))

  accounted_run : (h : List Entry) (w v : World K) (n : TalkName) → Tidy w → run K h (Some w) ≡ Some v → IsAccounted w n → IsAccounted v n × Tidy v
  accounted_run [] w v n q r a = let same = same_Some w v r in (subst (λ v. IsAccounted v n) same a, subst Tidy same q)
  accounted_run (e ∷ es) w v n q r a = on (step K w e) refl r (λ x. accounted_run es x v n)
    where
      on : (o : Option (World K)) → step K w e ≡ o → run K es o ≡ Some v → ((x : World K) → Tidy x → run K es (Some x) ≡ Some v → IsAccounted x n → IsAccounted v n × Tidy v) → IsAccounted v n × Tidy v
      on None s r later = absurd (let x = run_none K es in cc)
      on (Some x) s r later = later x (tidy_step w x e q s) r (accounted_step w x e n q s a)

  -- an effect by which the talk stands in what went, or waits
  abbrev IsCounted : Effect → TalkName → Type 0
  IsCounted x n =
      IsIn (names_in x.shared.went) (entry_name n) ⊎ ((o : Offer TalkName) × IsIn x.shared.book.waiting o × (o.by ≡ n))

  -- a talk that does not trap is accounted for after its entry
  talk_counted : (s : Shared) (t : TaskName) (b : Branch) (bs : List Branch) (pick : ℕ) (x : Effect) → has_bad s.book (b ∷ bs) ≡ false → performs s t (Talk (b ∷ bs)) pick ≡ Some x → IsCounted x (talk_of s t)
  talk_counted s t b bs pick x fine h = on (is_some_ready (ready s.book (b ∷ bs))) refl
    where
      waiting : (pick : ℕ) → at_zero pick (waits_for s t (b ∷ bs)) ≡ Some x → IsCounted x (talk_of s t)
      waiting zero e = subst (λ x. IsCounted x (talk_of s t)) (same_Some _ _ e) (inr (record { by = talk_of s t; number = 0; branch = b }, in_right s.book.waiting _ _ (record { at = 0; is = refl }), refl))
      waiting (suc k) e = absurd (cc)

      blocked : (u v : Bool) → u ≡ false → v ≡ false → cond u (at_zero pick (trapped s t Chan)) (goes_or_waits s t (b ∷ bs) pick v) ≡ Some x → IsCounted x (talk_of s t)
      blocked true v e f h = absurd (cc)
      blocked false true e f h = absurd (cc)
      blocked false false e f h = waiting pick h

      on : (v : Bool) → is_some_ready (ready s.book (b ∷ bs)) ≡ v → IsCounted x (talk_of s t)
      on true e =
          let k : Takes s t (b ∷ bs) pick x = is_taken s t (b ∷ bs) pick x fine e h in
          inl (subst (λ l. IsIn (names_in l) (entry_name (talk_of s t))) (sym k.went.is) (subst (λ l. IsIn l (entry_name (talk_of s t))) (sym (names_in-append s.went k.more)) (in_right (names_in s.went) (names_in k.more) (entry_name (talk_of s t)) k.named)))
      on false e = blocked (has_bad s.book (b ∷ bs)) (is_some_ready (ready s.book (b ∷ bs))) fine e h

  same_control : (a b : K.Control) → Goes a ≡ Goes b → a ≡ b
  same_control a b e = cc

  talk_step : (w v : World K) (e : Entry) (t : TaskName) → IsTalkEntry K w e t → step K w e ≡ Some v → IsAccounted v (talk_of w.shared t)
  talk_step w v e t k h =
      let x = step_by K w v e h in
      let same_task : x.task ≡ t = same_Some x.task t (sym x.first ∙ k.first) in
      let same_one : x.control ≡ k.control = same_control x.control k.control (sym x.goes_on ∙ ap w.tasks same_task ∙ k.goes) in
      let asked : performs w.shared t (K.ask k.control (w.privates t.proc)).act e.pick ≡ Some x.effect = subst₂ (λ u c. performs w.shared u (K.ask c (w.privates u.proc)).act e.pick ≡ Some x.effect) same_task same_one x.comes in
      let comes : performs w.shared t (Talk (k.branch ∷ k.branches)) e.pick ≡ Some x.effect = subst (λ a. performs w.shared t a e.pick ≡ Some x.effect) k.act asked in
      subst (λ v. IsAccounted v (talk_of w.shared t)) x.is (talk_counted w.shared t k.branch k.branches e.pick x.effect k.fine comes)

  after_talk : (v : World K) (n : TalkName) → IsAccounted v n → Tidy v → AfterTalk K v n
  after_talk v n a q = record { accounted = a; gone = λ o c g. on o c g a }
    where
      on : v.shared.over ≡ None → (c : K.Control) → v.tasks n.task ≡ Goes c → IsAccounted v n → IsIn (names_in v.shared.went) (entry_name n)
      on o c g (inl i) = i
      on o c g (inr x) =
          absurd (all_at (λ (y : Offer TalkName). y.by.task ≢ n.task) v.shared.book.waiting x.0 (others_wait v n.task c q.sound o g) x.1 (ap (λ (m : TalkName). m.task) x.2))

  pub is_once_gone : IsOnceGone K
  is_once_gone region globals start h more w v e t r k g = on (step K w e) refl g
    where
      on : (o : Option (World K)) → step K w e ≡ o → run K more o ≡ Some v → AfterTalk K v (talk_of w.shared t)
      on None s g = absurd (let x = run_none K more in cc)
      on (Some x) s g =
          let q = tidy_run region globals start h w r in
          let a = accounted_run more x v (talk_of w.shared t) (tidy_step w x e q s) g (talk_step w x e t k s) in
          after_talk v (talk_of w.shared t) a.0 a.1
