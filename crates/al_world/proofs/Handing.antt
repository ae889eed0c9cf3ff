-- What one talk does: it takes the pair that was picked, hands the same words over at both ends, and the branches of a
-- blocked talk that goes on leave the waiting list.
use Rattle.std.proofs.Common.{◌≡◌, ◌≢◌, ℕ, List, [], ◌∷◌, Bool, true, false, cond, not, Option, Some, None, is_some, is_none, Result, Ok, Err, option_map, option_and_then, refl, sym, ap, ◌∙◌, subst, subst₂, ◌⊎◌, inl, inr, append-nil}
use Rattle.std.specs.Prelude.{slice_get, unwrap_or}
use Rattle.std.specs.List.{AllByRecursion}
use Rattle.std.proofs.lemmas.Option.{same_Some}
use Rattle.std.proofs.lemmas.Bool.{eqb-true}
use Rattle.al_base.specs.declared.trap.Trap.{Trap}
use Rattle.al_base.specs.declared.trap.Trap.TheVariants.{Chan, Busy}
use Rattle.al_event.specs.declared.act.Branch.{Branch}
use Rattle.al_event.specs.declared.act.Act.{Act}
use Rattle.al_event.specs.declared.act.Act.TheVariants.{FreeChan, Talk}
use Rattle.al_world.specs.Channels.{Channel, Offer, Book, Pair, channel, is_opposite, has_bad, ready, is_some_ready, gives_up_one, is_waited_for, with_channel, without_values}
use Rattle.al_world.specs.Talks.{Woken, Fired, meets, sends, receives, by_buffer, goes_with, fires}
use Rattle.al_world.specs.World.{TaskName, TalkName, same_task, same_talker, Shared, Told, Answered, Effect}
use Rattle.al_world.specs.Actions.{acts, performs, or_trap, answer, with_book, with_went, lost, goes, wake_told, talk_of, talks, goes_or_waits, at_zero, trapped}
use Rattle.al_world.specs.Transfers.{entry_name, names_in, IsIn, Takes, IsTaken, GoesOn, IsLeftOrStays, IsTransferHanded, HandsWords, IsEqualAtBothEnds}
use Rattle.al_world.proofs.Maps.{same_task_tells}
use Rattle.al_world.proofs.Lists.{and_true, in_left, stays_in, in_tail}
use Rattle.al_world.proofs.Cases.{got_some, IfSome', performs_cases, talks_cases}
use Rattle.al_world.proofs.Fires.{fires_ways, Ways, IsBranch, IsPartner}
use Rattle.al_world.specs.Sound.{Offers}
use Rattle.al_world.proofs.Roles.{Without, without_others}

-- ---- the pair that was picked

-- branch i of talk t went
record IsGone (t : TalkName) (i : ℕ) (f : Fired TalkName) : Type 0 where
  branch : f.branch ≡ i
  named : IsIn (names_in f.went) (entry_name t)

first_in : {X : Type 0} (x : X) (xs : List X) → IsIn (x ∷ xs) x
first_in x xs = record { at = 0; is = refl }

module _ (book : Book TalkName) (t : TalkName) (i : ℕ) (f : Fired TalkName) where
  gone : (g : Fired TalkName) → Some g ≡ Some f → IsGone t i g → IsGone t i f
  gone g e h = subst (IsGone t i) (same_Some g f e) h

  meets_gone : (c : ℕ) (send : Option (List ℕ)) (o : Offer TalkName) → IsGone t i (meets same_talker book t i c send o)
  meets_gone c None o = record { branch = refl; named = in_tail _ _ _ (first_in _ _) }
  meets_gone c (Some words) o = record { branch = refl; named = first_in _ _ }

  sends_gone : (c : ℕ) (words : List ℕ) (held : List (List ℕ)) (os : Offers) → IsGone t i (sends same_talker book t i c words held os)
  sends_gone c words [] (o ∷ os) = record { branch = refl; named = first_in _ _ }
  sends_gone c words held os = record { branch = refl; named = first_in _ _ }

  receives_gone : (c : ℕ) (full : Bool) (held : List (List ℕ)) (os : Offers) → receives same_talker book t i c full held os ≡ Some f → IsGone t i f
  receives_gone c full [] os e = absurd (cc)
  receives_gone c true (words ∷ rest) (o ∷ os) e = gone _ e (record { branch = refl; named = first_in _ _ })
  receives_gone c full (words ∷ rest) os e = gone _ e (record { branch = refl; named = first_in _ _ })

  buffer_gone : (b : Branch) (send : Option (List ℕ)) (o : Option Channel) → by_buffer same_talker book t i b send o ≡ Some f → IsGone t i f
  buffer_gone b send None e = absurd (cc)
  buffer_gone b None (Some ch) e = receives_gone b.chan _ ch.held _ e
  buffer_gone b (Some words) (Some ch) e = gone _ e (sends_gone b.chan words ch.held _)

  goes_gone : (b : Branch) (o : Option (Offer TalkName)) → goes_with same_talker book t i b o ≡ Some f → IsGone t i f
  goes_gone b None e = buffer_gone b b.send (channel book.channels b.chan) e
  goes_gone b (Some o) e = gone _ e (meets_gone b.chan b.send o)

pub is_taken : IsTaken
is_taken s t branches pick e fine some h =
    on (has_bad s.book branches) (is_some_ready (ready s.book branches)) fine some h
  where
    at_pair : (f : Fired TalkName) → goes s t f ≡ e → (p : Pair TalkName) → slice_get (ready s.book branches) pick ≡ Some p → IsGone (talk_of s t) p.number f → Takes s t branches pick e
    at_pair f is p at g = subst (Takes s t branches pick) is (record {
      pair = p;
      is = at;
      words = f.words;
      answered = subst (λ n. IsIn (goes s t f).told (t, Answered (n ∷ f.words))) g.branch (first_in _ _);
      more = f.went;
      went = record { is = refl };
      named = g.named;
    })

    at_pick : (f : Fired TalkName) → goes s t f ≡ e → (o : Option (Pair TalkName)) → slice_get (ready s.book branches) pick ≡ o → option_and_then (λ (p : Pair TalkName). goes_with same_talker s.book (talk_of s t) p.number p.branch p.partner) o ≡ Some f → Takes s t branches pick e
    at_pick f is None at g = absurd (cc)
    at_pick f is (Some p) at g = at_pair f is p at (goes_gone s.book (talk_of s t) p.number f p.branch p.partner g)

    fired : (o : Option (Fired TalkName)) → fires same_talker s.book (talk_of s t) branches pick ≡ o → option_map (goes s t) o ≡ Some e → Takes s t branches pick e
    fired None g h = absurd (cc)
    fired (Some f) g h = at_pick f (same_Some _ _ h) (slice_get (ready s.book branches) pick) refl g

    on : (a b : Bool) → a ≡ false → b ≡ true → cond a (at_zero pick (trapped s t Chan)) (goes_or_waits s t branches pick b) ≡ Some e → Takes s t branches pick e
    on true b x y h = absurd (cc)
    on false false x y h = absurd (cc)
    on false true x y h = fired (fires same_talker s.book (talk_of s t) branches pick) refl h

-- ---- branches that wait

abbrev StaysOrGoes : Shared → Effect → Type 0
StaysOrGoes s e = (o : Offer TalkName) → IsIn s.book.waiting o → IsIn e.shared.book.waiting o ⊎ GoesOn s o e

record Leaves (s : Shared) (e : Effect) : Type 0 where
  leaves : StaysOrGoes s e

-- a talk that goes wakes none, or the talk of a branch that waits
record IsChosen (waiting : Offers) (w : Woken TalkName) (f : Fired TalkName) : Type 0 where
  chosen : Offer TalkName
  waited : IsIn waiting chosen
  by : w.by ≡ chosen.by
  branch : w.branch ≡ chosen.number
  left : f.book.waiting ≡ Without chosen.by waiting
  named : IsIn (names_in f.went) (entry_name chosen.by)

abbrev NoneOrChosen : Offers → Option (Woken TalkName) → Fired TalkName → Type 0
NoneOrChosen waiting None f = f.book.waiting ≡ waiting
NoneOrChosen waiting (Some w) f = IsChosen waiting w f

record Wakes (waiting : Offers) (f : Fired TalkName) : Type 0 where
  wakes : NoneOrChosen waiting f.woke f

module _ (s : Shared) (t : TaskName) where
  wakes_of : (bs : List Branch) (pick : ℕ) (f : Fired TalkName) → fires same_talker s.book (talk_of s t) bs pick ≡ Some f → Wakes s.book.waiting f
  wakes_of bs pick f = fires_ways s.book bs same_talker (talk_of s t) (Wakes s.book.waiting) ways f pick
    where
      meets_way : (i : ℕ) (b : Branch) (o : Offer TalkName) (send : Option (List ℕ)) → IsPartner s.book.waiting b o → Wakes s.book.waiting (meets same_talker s.book (talk_of s t) i b.chan send o)
      meets_way i b o None p = record { wakes = record { chosen = o; waited = p.waits; by = refl; branch = refl; left = refl; named = first_in _ _ } }
      meets_way i b o (Some words) p = record { wakes = record { chosen = o; waited = p.waits; by = refl; branch = refl; left = refl; named = in_tail _ _ _ (first_in _ _) } }

      ways : Ways s.book bs same_talker (talk_of s t) (Wakes s.book.waiting)
      ways = record {
        q_meets = λ i b ch o at z p. meets_way i b o b.send p;
        q_hands_over = λ i b ch words o at z sn h p. record { wakes = record { chosen = o; waited = p.waits; by = refl; branch = refl; left = refl; named = in_tail _ _ _ (first_in _ _) } };
        q_puts_in = λ i b ch words at z sn. record { wakes = refl };
        q_takes_out = λ i b ch words rest at z sn h. record { wakes = refl };
        q_lets_in = λ i b ch words rest o at z sn h p. record { wakes = record { chosen = o; waited = p.waits; by = refl; branch = refl; left = refl; named = in_tail _ _ _ (first_in _ _) } };
      }

  leaves_goes : (f : Fired TalkName) → Wakes s.book.waiting f → Leaves s (goes s t f)
  leaves_goes f w = record { leaves = λ o i. on f.woke refl w.wakes o i }
    where
      goes_on : (v : Woken TalkName) → f.woke ≡ Some v → (c : IsChosen s.book.waiting v f) (o : Offer TalkName) → o.by.task ≡ c.chosen.by.task → GoesOn s o (goes s t f)
      goes_on v is c o same = record {
        chosen = c.chosen;
        waited = c.waited;
        same_task = sym same;
        words = v.words;
        answered = in_tail _ _ _ (subst (λ x. IsIn {X = TaskName × Told} (wake_told x) (c.chosen.by.task, Answered (c.chosen.number ∷ v.words))) (sym is) (subst₂ (λ (n : TalkName) k. IsIn {X = TaskName × Told} ((v.by.task, Answered (v.branch ∷ v.words)) ∷ []) (n.task, Answered (k ∷ v.words))) c.by c.branch (first_in _ _)));
        more = f.went;
        went = record { is = refl };
        named = c.named;
        left = subst (AllByRecursion (λ (x : Offer TalkName). x.by.task ≢ o.by.task)) (sym c.left) (subst (λ u. AllByRecursion (λ (x : Offer TalkName). x.by.task ≢ u) (Without c.chosen.by s.book.waiting)) (sym same) (without_others c.chosen.by s.book.waiting));
      }

      chosen_or : (v : Woken TalkName) → f.woke ≡ Some v → (c : IsChosen s.book.waiting v f) (o : Offer TalkName) → IsIn s.book.waiting o → ((same_task o.by.task c.chosen.by.task ≡ true) × (o.by.task ≡ c.chosen.by.task)) ⊎ ((same_task o.by.task c.chosen.by.task ≡ false) × (o.by.task ≢ c.chosen.by.task)) → IsIn f.book.waiting o ⊎ GoesOn s o (goes s t f)
      chosen_or v is c o i (inl x) = inr (goes_on v is c o x.1)
      chosen_or v is c o i (inr x) =
          inl (subst (λ l. IsIn l o) (sym c.left) (stays_in (λ (y : Offer TalkName). not (same_talker y.by c.chosen.by)) s.book.waiting o i (ap not x.0)))

      on : (v : Option (Woken TalkName)) → f.woke ≡ v → NoneOrChosen s.book.waiting v f → (o : Offer TalkName) → IsIn s.book.waiting o → IsIn f.book.waiting o ⊎ GoesOn s o (goes s t f)
      on None is same o i = inl (subst (λ l. IsIn l o) (sym same) i)
      on (Some v) is c o i = chosen_or v is c o i (same_task_tells o.by.task c.chosen.by.task)

  stays_or_trap : {X : Type 0} (r : Result X Trap) (f : X → Effect) → ((x : X) → Leaves s (f x)) → Leaves s (or_trap s t r f)
  stays_or_trap (Ok x) f h = h x
  stays_or_trap (Err trap) f h = record { leaves = λ o i. inl i }

  stays_if : (b : Bool) (x y : Effect) → Leaves s x → Leaves s y → Leaves s (cond b x y)
  stays_if true x y h k = h
  stays_if false x y h k = k

  stays_same : (e : Effect) → s.book.waiting ≡ e.shared.book.waiting → Leaves s e
  stays_same e w = record { leaves = λ o i. inl (subst (λ l. IsIn l o) w i) }

  given_one : (c : ℕ) (o : Option Channel) → Leaves s (or_trap s t (gives_up_one s.book c o) (λ book. answer (with_went (lost s c) (with_book book s)) t []))
  given_one c None = stays_same _ refl
  given_one c (Some ch) = on ch.given_up (is_waited_for s.book c)
    where
      on : (u v : Bool) → Leaves s (or_trap s t (cond u (Err Chan) (cond v (Err Busy) (Ok (record s.book { channels = with_channel c without_values s.book.channels })))) (λ book. answer (with_went (lost s c) (with_book book s)) t []))
      on true v = stays_same _ refl
      on false true = stays_same _ refl
      on false false = stays_same _ refl

  stays_acts : (act : Act) → Leaves s (acts s t act)
  stays_acts (FreeChan c) = given_one c (channel s.book.channels c)
  stays_acts (Talk bs) = record { leaves = λ o i. inl (in_left s.book.waiting _ o i) }
  stays_acts act = search (stays_if, stays_or_trap, stays_same)

  leaves_performs : (act : Act) (pick : ℕ) → IfSome' (Leaves s) (performs s t act pick)
  leaves_performs act pick =
      performs_cases (Leaves s) s t (stays_same _ refl) (λ bs k f fine e. leaves_goes f (wakes_of bs k f e)) act pick (stays_acts act)

pub is_left_or_stays : IsLeftOrStays
is_left_or_stays s t act pick e o h i =
    let l : Leaves s e = got_some (Leaves s) (performs s t act pick) e (leaves_performs s t act pick) h in l.leaves o i

-- ---- the words at both ends

module _ (s : Shared) (t : TaskName) (branches : List Branch) where
  -- what is known of opposite branches
  record AreOpposite (b c : Branch) : Type 0 where
    chan : b.chan ≡ c.chan
    other : cond (is_some b.send) (is_none c.send) (is_some c.send) ≡ true

  are_opposite : (b c : Branch) → is_opposite b c ≡ true → AreOpposite b c
  are_opposite b c h = let x = and_true _ _ h in record { chan = eqb-true _ _ x.0; other = x.1 }

  none_of : (send : Option (List ℕ)) → is_none send ≡ true → send ≡ None
  none_of None h = refl
  none_of (Some words) h = absurd (cc)

  some_of : (send : Option (List ℕ)) → is_some send ≡ true → send ≡ Some (unwrap_or send [])
  some_of None h = absurd (cc)
  some_of (Some words) h = refl

  record HandsAll (f : Fired TalkName) : Type 0 where
    handed : AllByRecursion (IsTransferHanded s t branches (goes s t f)) f.went

  hands_meets : (i : ℕ) (b : Branch) (ch : Channel) (o : Offer TalkName) → IsBranch s.book branches i b ch → IsPartner s.book.waiting b o → (send : Option (List ℕ)) → b.send ≡ send → HandsAll (meets same_talker s.book (talk_of s t) i b.chan send o)
  hands_meets i b ch o at p (Some words) e =
      let x = are_opposite b o.branch p.opposite in
      let n : is_none o.branch.send ≡ true = subst (λ w. cond (is_some w) (is_none o.branch.send) (is_some o.branch.send) ≡ true) e x.other in
      record {
        handed = (
          record {
            sent_by = i;
            sending = b;
            sends = inl (refl, at.at);
            sent = e;
            sent_on = refl;
            received_by = o.number;
            receiving = o.branch;
            receives = inr p.waits;
            no_send = none_of o.branch.send n;
            received_on = sym x.chan;
            told = in_tail _ _ _ (first_in _ _);
          },
          tt,
        );
      }
  hands_meets i b ch o at p None e =
      let x = are_opposite b o.branch p.opposite in
      let n : is_some o.branch.send ≡ true = subst (λ w. cond (is_some w) (is_none o.branch.send) (is_some o.branch.send) ≡ true) e x.other in
      record {
        handed = (
          record {
            sent_by = o.number;
            sending = o.branch;
            sends = inr p.waits;
            sent = some_of o.branch.send n;
            sent_on = sym x.chan;
            received_by = i;
            receiving = b;
            receives = inl (refl, at.at);
            no_send = e;
            received_on = refl;
            told = first_in _ _;
          },
          tt,
        );
      }

  hands_fired : (pick : ℕ) (f : Fired TalkName) → fires same_talker s.book (talk_of s t) branches pick ≡ Some f → HandsAll f
  hands_fired pick f = fires_ways s.book branches same_talker (talk_of s t) HandsAll ways f pick
    where
      ways : Ways s.book branches same_talker (talk_of s t) HandsAll
      ways = record {
        q_meets = λ i b ch o at z p. hands_meets i b ch o at p b.send refl;
        q_hands_over = λ i b ch words o at z sn h p. record { handed = (tt, (tt, tt)) };
        q_puts_in = λ i b ch words at z sn. record { handed = (tt, tt) };
        q_takes_out = λ i b ch words rest at z sn h. record { handed = (tt, tt) };
        q_lets_in = λ i b ch words rest o at z sn h p. record { handed = (tt, (tt, tt)) };
      }

  hands_none : (e : Effect) → e.shared.went ≡ s.went → HandsWords s t branches e
  hands_none e w = record { more = []; went = record { is = w ∙ sym (append-nil s.went) }; handed = tt }

  hands_talks : (pick : ℕ) → IfSome' (HandsWords s t branches) (talks s t branches pick)
  hands_talks pick =
      talks_cases (HandsWords s t branches) s t branches pick (hands_none _ refl) (λ _. hands_none _ refl) (λ f fine e. record { more = f.went; went = record { is = refl }; handed = (hands_fired pick f e).handed })

pub is_equal_at_both_ends : IsEqualAtBothEnds
is_equal_at_both_ends s t branches pick e h = got_some (HandsWords s t branches) (talks s t branches pick) e (hands_talks s t branches pick) h
