-- Buffered channels are first in, first out, along every schedule.
use Rattle.std.proofs.Common.{◌≡◌, ◌≢◌, ℕ, zero, suc, List, [], ◌∷◌, ◌++◌, Bool, true, false, cond, ◌==◌, ◌&&◌, not, drop, Option, Some, None, Result, Ok, Err, option_map, refl, sym, ap, ◌∙◌, subst, subst₂, eq-eqb, ne_eqb, append_assoc, append-nil, ◌⊎◌, inl, inr}
use Rattle.std.specs.Prelude.{slice_get}
use Rattle.std.proofs.lemmas.Bool.Decides.{eqb_tells}
use Rattle.al_event.specs.Store.{Live}
use Rattle.al_base.specs.declared.trap.Trap.{Trap}
use Rattle.al_base.specs.declared.trap.Trap.TheVariants.{Chan, Busy}
use Rattle.al_event.specs.declared.act.Branch.{Branch}
use Rattle.al_event.specs.declared.act.Act.{Act}
use Rattle.al_event.specs.declared.act.Act.TheVariants.{NewChan, FreeChan}
use Rattle.al_event.specs.declared.entry.Entry.{Entry}
use Rattle.al_world.specs.Channels.{Channel, Offer, channel, with_channel, new_channel, without_values, held_of, is_usable, takes_words, is_bad, has_bad, gives_up_one, is_waited_for}
use Rattle.al_world.specs.Talks.{Went, Transfer, Put, Get, Lost, Fired, fires, with_held, meets, words_of}
use Rattle.al_world.specs.Control.{Kind}
use Rattle.al_world.specs.World.{TaskName, TalkName, same_talker, World, Shared, Effect}
use Rattle.al_world.specs.Actions.{acts, performs, or_trap, answer, with_book, with_went, lost, goes, talk_of}
use Rattle.al_world.specs.Step.{step, opening_with, with_globals}
use Rattle.al_world.specs.Transfers.{puts_of, gets_of, lost_of, IsInOrder}
use Rattle.al_world.proofs.Maps.{get-changed-same, get-changed-other}
use Rattle.al_world.proofs.Lists.{any_false_at, true_false}
use Rattle.al_world.proofs.Cases.{got_some, IfSome', performs_cases}
use Rattle.al_world.proofs.Runs.{along}
use Rattle.al_world.proofs.Local.{step_by}
use Rattle.al_world.proofs.Fires.{fires_ways, Ways, IsBranch}

abbrev Log : Type 0
Log = List (Went TalkName)

puts_of-append : (c : ℕ) (xs ys : Log) → puts_of c (xs ++ ys) ≡ puts_of c xs ++ puts_of c ys
puts_of-append c [] ys = refl
puts_of-append c (Put d n w ∷ xs) ys = elim (d == c) as (λ b. cond b (w ∷ puts_of c (xs ++ ys)) (puts_of c (xs ++ ys)) ≡ cond b (w ∷ puts_of c xs) (puts_of c xs) ++ puts_of c ys) [ true ↦ ap (λ l. w ∷ l) (puts_of-append c xs ys) | false ↦ puts_of-append c xs ys ]
puts_of-append c (Get d n w ∷ xs) ys = puts_of-append c xs ys
puts_of-append c (Transfer d n m w ∷ xs) ys = puts_of-append c xs ys
puts_of-append c (Lost d v ∷ xs) ys = puts_of-append c xs ys

gets_of-append : (c : ℕ) (xs ys : Log) → gets_of c (xs ++ ys) ≡ gets_of c xs ++ gets_of c ys
gets_of-append c [] ys = refl
gets_of-append c (Get d n w ∷ xs) ys = elim (d == c) as (λ b. cond b (w ∷ gets_of c (xs ++ ys)) (gets_of c (xs ++ ys)) ≡ cond b (w ∷ gets_of c xs) (gets_of c xs) ++ gets_of c ys) [ true ↦ ap (λ l. w ∷ l) (gets_of-append c xs ys) | false ↦ gets_of-append c xs ys ]
gets_of-append c (Put d n w ∷ xs) ys = gets_of-append c xs ys
gets_of-append c (Transfer d n m w ∷ xs) ys = gets_of-append c xs ys
gets_of-append c (Lost d v ∷ xs) ys = gets_of-append c xs ys

lost_of-append : (c : ℕ) (xs ys : Log) → lost_of c (xs ++ ys) ≡ lost_of c xs ++ lost_of c ys
lost_of-append c [] ys = refl
lost_of-append c (Lost d v ∷ xs) ys = elim (d == c) as (λ b. cond b (v ++ lost_of c (xs ++ ys)) (lost_of c (xs ++ ys)) ≡ cond b (v ++ lost_of c xs) (lost_of c xs) ++ lost_of c ys) [ true ↦ ap (λ l. v ++ l) (lost_of-append c xs ys) ∙ sym (append_assoc v (lost_of c xs) (lost_of c ys)) | false ↦ lost_of-append c xs ys ]
lost_of-append c (Put d n w ∷ xs) ys = lost_of-append c xs ys
lost_of-append c (Get d n w ∷ xs) ys = lost_of-append c xs ys
lost_of-append c (Transfer d n m w ∷ xs) ys = lost_of-append c xs ys

-- ---- a channel after a change of one

pub channel-same : (c : ℕ) (f : Channel → Channel) (chs : List Channel) → channel (with_channel c f chs) c ≡ option_map f (channel chs c)
channel-same zero f chs = refl
channel-same (suc k) f chs = get-changed-same k f chs

pub channel-other : (c d : ℕ) (f : Channel → Channel) (chs : List Channel) → d ≢ c → channel (with_channel c f chs) d ≡ channel chs d
channel-other zero d f chs ne = refl
channel-other (suc k) zero f chs ne = refl
channel-other (suc k) (suc j) f chs ne = get-changed-other k j f chs (λ e. ne (ap suc e))

-- ---- the law, with what was lost only where a channel was given up

-- nothing was lost of this channel, unless it was given up
abbrev NothingLost : Log → ℕ → Option Channel → Type 0
NothingLost went c None = lost_of c went ≡ []
NothingLost went c (Some ch) = ch.given_up ≡ false → lost_of c went ≡ []

record IsKeptOrder (went : Log) (chs : List Channel) : Type 0 where
  queue : (c : ℕ) → puts_of c went ≡ gets_of c went ++ (lost_of c went ++ held_of (channel chs c))
  unlost : (c : ℕ) → NothingLost went c (channel chs c)

-- a channel whose look is another one: what it holds and whether it was given up
module _ (went : Log) (chs : List Channel) (q : IsKeptOrder went chs) where
  -- on each channel the same is held, and it was given up before where it is now
  order_alike : (chs' : List Channel) → ((d : ℕ) → (held_of (channel chs' d) ≡ held_of (channel chs d)) × ((NothingLost went d (channel chs d)) → NothingLost went d (channel chs' d))) → IsKeptOrder went chs'
  order_alike chs' h = record {
    queue = λ d. q.queue d ∙ ap (λ l. gets_of d went ++ (lost_of d went ++ l)) (sym (h d).0);
    unlost = λ d. (h d).1 (q.unlost d);
  }

  module _ (c : ℕ) (more : Log) (chs' : List Channel) where
    -- what a change on channel c leaves of another channel
    record LeavesChannel (d : ℕ) : Type 0 where
      puts : puts_of d more ≡ []
      gets : gets_of d more ≡ []
      lost : lost_of d more ≡ []
      same : channel chs' d ≡ channel chs d

    joined : (d : ℕ) → puts_of d went ++ puts_of d more ≡ (gets_of d went ++ gets_of d more) ++ ((lost_of d went ++ lost_of d more) ++ held_of (channel chs' d)) → puts_of d (went ++ more) ≡ gets_of d (went ++ more) ++ (lost_of d (went ++ more) ++ held_of (channel chs' d))
    joined d e =
        puts_of-append d went more ∙ e ∙ subst₂ (λ x y. (gets_of d went ++ gets_of d more) ++ ((lost_of d went ++ lost_of d more) ++ held_of (channel chs' d)) ≡ x ++ (y ++ held_of (channel chs' d))) (sym (gets_of-append d went more)) (sym (lost_of-append d went more)) refl

    kept_queue : (d : ℕ) → LeavesChannel d → puts_of d (went ++ more) ≡ gets_of d (went ++ more) ++ (lost_of d (went ++ more) ++ held_of (channel chs' d))
    kept_queue d o = joined d (rw (o.puts, o.gets, o.lost, o.same, append-nil, append-nil, append-nil) (q.queue d))

    kept_open : (d : ℕ) → LeavesChannel d → NothingLost (went ++ more) d (channel chs' d)
    kept_open d o = on (channel chs d) (q.unlost d)
      where
        is : (x : Option Channel) → channel chs' d ≡ x → NothingLost went d x → NothingLost (went ++ more) d x
        is None e h = lost_of-append d went more ∙ rw (o.lost, append-nil) h
        is (Some ch) e h = λ g. lost_of-append d went more ∙ rw (o.lost, append-nil) (h g)

        on : (x : Option Channel) → NothingLost went d (channel chs d) → NothingLost (went ++ more) d (channel chs' d)
        on x h = is (channel chs' d) refl (subst (NothingLost went d) (sym o.same) h)

    -- at c the new puts and gets fit what it held and holds, and no other channel is touched
    order_more : ((d : ℕ) → d ≢ c → LeavesChannel d) → lost_of c went ≡ [] → lost_of c more ≡ [] → held_of (channel chs c) ++ puts_of c more ≡ gets_of c more ++ held_of (channel chs' c) → IsKeptOrder (went ++ more) chs'
    order_more others none none_more here = record { queue = λ d. at d (eqb_tells d c); unlost = λ d. open_at d (eqb_tells d c) }
      where
        none_both : lost_of c (went ++ more) ≡ []
        none_both = lost_of-append c went more ∙ rw (none, none_more) refl

        at_c : puts_of c went ++ puts_of c more ≡ (gets_of c went ++ gets_of c more) ++ ((lost_of c went ++ lost_of c more) ++ held_of (channel chs' c))
        at_c =
            let before : puts_of c went ≡ gets_of c went ++ held_of (channel chs c) = q.queue c ∙ ap (λ l. gets_of c went ++ (l ++ held_of (channel chs c))) none in
            let whole : puts_of c went ++ puts_of c more ≡ (gets_of c went ++ gets_of c more) ++ held_of (channel chs' c) = ap (λ l. l ++ puts_of c more) before ∙ append_assoc (gets_of c went) _ _ ∙ ap (λ l. gets_of c went ++ l) here ∙ sym (append_assoc (gets_of c went) _ _) in
            rw (none, none_more) whole

        at : (d : ℕ) → ((d == c ≡ true) × (d ≡ c)) ⊎ ((d == c ≡ false) × (d ≢ c)) → puts_of d (went ++ more) ≡ gets_of d (went ++ more) ++ (lost_of d (went ++ more) ++ held_of (channel chs' d))
        at d (inl e) = subst (λ d. puts_of d (went ++ more) ≡ gets_of d (went ++ more) ++ (lost_of d (went ++ more) ++ held_of (channel chs' d))) (sym e.1) (joined c at_c)
        at d (inr e) = kept_queue d (others d e.1)

        nothing : (o : Option Channel) → NothingLost (went ++ more) c o
        nothing None = none_both
        nothing (Some ch) = λ _. none_both

        open_at : (d : ℕ) → ((d == c ≡ true) × (d ≡ c)) ⊎ ((d == c ≡ false) × (d ≢ c)) → NothingLost (went ++ more) d (channel chs' d)
        open_at d (inl e) = subst (λ d. NothingLost (went ++ more) d (channel chs' d)) (sym e.1) (nothing (channel chs' c))
        open_at d (inr e) = kept_open d (others d e.1)

same_number : (c : ℕ) → (c == c) ≡ true
same_number c = eq-eqb c c refl

other_number : (c d : ℕ) → d ≢ c → (c == d) ≡ false
other_number c d ne = ne_eqb c d (λ e. ne (sym e))

-- ---- each effect

pub record KeepsOrder (e : Effect) : Type 0 where
  kept : IsKeptOrder e.shared.went e.shared.book.channels

module _ (s : Shared) (t : TaskName) (q : IsKeptOrder s.went s.book.channels) where
  order_or_trap : {X : Type 0} (r : Result X Trap) (f : X → Effect) → ((x : X) → KeepsOrder (f x)) → KeepsOrder (or_trap s t r f)
  order_or_trap (Ok x) f h = h x
  order_or_trap (Err trap) f h = record { kept = q }

  order_if : (b : Bool) (x y : Effect) → KeepsOrder x → KeepsOrder y → KeepsOrder (cond b x y)
  order_if true x y h k = h
  order_if false x y h k = k

  -- what went and the channels stay
  order_same : (e : Effect) → s.went ≡ e.shared.went → s.book.channels ≡ e.shared.book.channels → KeepsOrder e
  order_same e p r = record { kept = subst₂ IsKeptOrder p r q }

  -- a new channel holds nothing, and nothing was lost of it
  order_new : (ch : Channel) → ch.held ≡ [] → IsKeptOrder s.went (s.book.channels ++ ch ∷ [])
  order_new ch e = order_alike s.went s.book.channels q (s.book.channels ++ ch ∷ []) at
    where
      on : (d k : ℕ) (chs : List Channel) → (held_of (slice_get (chs ++ ch ∷ []) k) ≡ held_of (slice_get chs k)) × (NothingLost s.went d (slice_get chs k) → NothingLost s.went d (slice_get (chs ++ ch ∷ []) k))
      on d zero [] = (e, λ h _. h)
      on d (suc k) [] = (refl, λ h. h)
      on d zero (x ∷ xs) = (refl, λ h. h)
      on d (suc k) (x ∷ xs) = on d k xs

      at : (d : ℕ) → (held_of (channel (s.book.channels ++ ch ∷ []) d) ≡ held_of (channel s.book.channels d)) × (NothingLost s.went d (channel s.book.channels d) → NothingLost s.went d (channel (s.book.channels ++ ch ∷ []) d))
      at zero = (refl, λ h. h)
      at (suc k) = on (suc k) k s.book.channels

  -- what a channel that is given up holds is lost
  order_given_up : (c : ℕ) (ch : Channel) → channel s.book.channels c ≡ Some ch → ch.given_up ≡ false → IsKeptOrder (s.went ++ Lost c (held_of (channel s.book.channels c)) ∷ []) (with_channel c without_values s.book.channels)
  order_given_up c ch there usable = record { queue = λ d. at d (eqb_tells d c); unlost = λ d. open_at d (eqb_tells d c) }
    where
      now : channel (with_channel c without_values s.book.channels) c ≡ Some (without_values ch)
      now = channel-same c without_values s.book.channels ∙ ap (option_map without_values) there

      none : lost_of c s.went ≡ []
      none = let h : NothingLost s.went c (Some ch) = subst (NothingLost s.went c) there (q.unlost c) in h usable

      others : (d : ℕ) → d ≢ c → LeavesChannel s.went s.book.channels q c (Lost c (held_of (channel s.book.channels c)) ∷ []) (with_channel c without_values s.book.channels) d
      others d ne = let n = other_number c d ne in record { puts = refl; gets = refl; lost = rw n refl; same = channel-other c d without_values s.book.channels ne }

      at_c : puts_of c (s.went ++ Lost c (held_of (channel s.book.channels c)) ∷ []) ≡ gets_of c (s.went ++ Lost c (held_of (channel s.book.channels c)) ∷ []) ++ (lost_of c (s.went ++ Lost c (held_of (channel s.book.channels c)) ∷ []) ++ held_of (channel (with_channel c without_values s.book.channels) c))
      at_c =
          let n = same_number c in
          joined s.went s.book.channels q c (Lost c (held_of (channel s.book.channels c)) ∷ []) (with_channel c without_values s.book.channels) c (rw (n, now, none, append-nil, append-nil, append-nil, append-nil) (q.queue c ∙ ap (λ l. gets_of c s.went ++ (l ++ held_of (channel s.book.channels c))) none))

      at : (d : ℕ) → ((d == c ≡ true) × (d ≡ c)) ⊎ ((d == c ≡ false) × (d ≢ c)) → puts_of d (s.went ++ Lost c (held_of (channel s.book.channels c)) ∷ []) ≡ gets_of d (s.went ++ Lost c (held_of (channel s.book.channels c)) ∷ []) ++ (lost_of d (s.went ++ Lost c (held_of (channel s.book.channels c)) ∷ []) ++ held_of (channel (with_channel c without_values s.book.channels) d))
      at d (inl e) = subst (λ d. puts_of d (s.went ++ Lost c (held_of (channel s.book.channels c)) ∷ []) ≡ gets_of d (s.went ++ Lost c (held_of (channel s.book.channels c)) ∷ []) ++ (lost_of d (s.went ++ Lost c (held_of (channel s.book.channels c)) ∷ []) ++ held_of (channel (with_channel c without_values s.book.channels) d))) (sym e.1) at_c
      at d (inr e) = kept_queue s.went s.book.channels q c _ _ d (others d e.1)

      open_at : (d : ℕ) → ((d == c ≡ true) × (d ≡ c)) ⊎ ((d == c ≡ false) × (d ≢ c)) → NothingLost (s.went ++ Lost c (held_of (channel s.book.channels c)) ∷ []) d (channel (with_channel c without_values s.book.channels) d)
      open_at d (inl e) = subst (λ d. NothingLost (s.went ++ Lost c (held_of (channel s.book.channels c)) ∷ []) d (channel (with_channel c without_values s.book.channels) d)) (sym e.1) (subst (NothingLost (s.went ++ Lost c (held_of (channel s.book.channels c)) ∷ []) c) (sym now) (λ g. absurd (true_false g)))
      open_at d (inr e) = kept_open s.went s.book.channels q c _ _ d (others d e.1)

  -- ---- a talk that goes

  usable_of : (b : Branch) (ch : Channel) → channel s.book.channels b.chan ≡ Some ch → is_bad s.book.channels b ≡ false → ch.given_up ≡ false
  usable_of b ch there fine =
      on ch.given_up refl (subst (λ o. not (is_usable o && takes_words b.words o) ≡ false) there fine)
    where
      on : (g : Bool) → ch.given_up ≡ g → not (not ch.given_up && takes_words b.words (Some ch)) ≡ false → ch.given_up ≡ false
      on false e h = e
      on true e h = absurd (true_false (sym (ap (λ g. not (not g && takes_words b.words (Some ch))) e) ∙ h))

  module _ (branches : List Branch) (fine : has_bad s.book branches ≡ false) where
    nothing_lost : (i : ℕ) (b : Branch) (ch : Channel) → IsBranch s.book branches i b ch → lost_of b.chan s.went ≡ []
    nothing_lost i b ch at =
        let u : ch.given_up ≡ false = usable_of b ch at.on (any_false_at (is_bad s.book.channels) branches i b fine at.at) in
        let h : NothingLost s.went b.chan (Some ch) = subst (NothingLost s.went b.chan) at.on (q.unlost b.chan) in
        h u

    record KeepsFired (f : Fired TalkName) : Type 0 where
      kept : IsKeptOrder (s.went ++ f.went) f.book.channels

    -- a change of one channel that was not given up
    one_channel : (i : ℕ) (b : Branch) (ch : Channel) → IsBranch s.book branches i b ch → (more : Log) (chs' : List Channel) → ((d : ℕ) → d ≢ b.chan → LeavesChannel s.went s.book.channels q b.chan more chs' d) → lost_of b.chan more ≡ [] → held_of (channel s.book.channels b.chan) ++ puts_of b.chan more ≡ gets_of b.chan more ++ held_of (channel chs' b.chan) → IsKeptOrder (s.went ++ more) chs'
    one_channel i b ch at more chs' others none here = order_more s.went s.book.channels q b.chan more chs' others (nothing_lost i b ch at) none here

    meets_way : (i : ℕ) (b : Branch) (ch : Channel) (o : Offer TalkName) → IsBranch s.book branches i b ch → (send : Option (List ℕ)) → KeepsFired (meets same_talker s.book (talk_of s t) i b.chan send o)
    meets_way i b ch o at None = record { kept = one_channel i b ch at _ _ (λ d ne. record { puts = refl; gets = refl; lost = refl; same = refl }) refl (append-nil _) }
    meets_way i b ch o at (Some words) = record { kept = one_channel i b ch at _ _ (λ d ne. record { puts = refl; gets = refl; lost = refl; same = refl }) refl (append-nil _) }

    held-there : (b : Branch) (ch : Channel) (f : List (List ℕ) → List (List ℕ)) → channel s.book.channels b.chan ≡ Some ch → held_of (channel (with_held b.chan f s.book.channels) b.chan) ≡ f ch.held
    held-there b ch f there = ap held_of (channel-same b.chan _ s.book.channels ∙ ap (option_map (λ (ch : Channel). record ch { held = f ch.held })) there)

    ways : Ways s.book branches same_talker (talk_of s t) KeepsFired
    ways = record {
      q_meets = λ i b ch o at z p. meets_way i b ch o at b.send;
      q_hands_over = λ i b ch words o at z sn h p.
          let n = same_number b.chan in
          let e : held_of (channel s.book.channels b.chan) ≡ [] = ap held_of at.on ∙ h in
          record { kept = one_channel i b ch at _ _ (λ d ne. let m = other_number b.chan d ne in record { puts = rw m refl; gets = rw m refl; lost = refl; same = refl }) refl (rw (n, e) refl) };
      q_puts_in = λ i b ch words at z sn.
          let n = same_number b.chan in
          let e : held_of (channel s.book.channels b.chan) ≡ ch.held = ap held_of at.on in
          let now = held-there b ch (λ held. held ++ words ∷ []) at.on in
          record { kept = one_channel i b ch at _ _ (λ d ne. let m = other_number b.chan d ne in record { puts = rw m refl; gets = refl; lost = refl; same = channel-other b.chan d _ s.book.channels ne }) refl (rw (n, e, now) refl) };
      q_takes_out = λ i b ch words rest at z sn h.
          let n = same_number b.chan in
          let e : held_of (channel s.book.channels b.chan) ≡ words ∷ rest = ap held_of at.on ∙ h in
          let now = held-there b ch (λ held. drop 1 held) at.on ∙ ap (λ l. drop 1 l) h in
          record { kept = one_channel i b ch at _ _ (λ d ne. let m = other_number b.chan d ne in record { puts = refl; gets = rw m refl; lost = refl; same = channel-other b.chan d _ s.book.channels ne }) refl (rw (n, e, now, append-nil) refl) };
      q_lets_in = λ i b ch words rest o at z sn h p.
          let n = same_number b.chan in
          let e : held_of (channel s.book.channels b.chan) ≡ words ∷ rest = ap held_of at.on ∙ h in
          let now = held-there b ch (λ held. drop 1 held ++ words_of o ∷ []) at.on ∙ ap (λ l. drop 1 l ++ words_of o ∷ []) h in
          record { kept = one_channel i b ch at _ _ (λ d ne. let m = other_number b.chan d ne in record { puts = rw m refl; gets = rw m refl; lost = refl; same = channel-other b.chan d _ s.book.channels ne }) refl (rw (n, e, now) refl) };
    }

    order_goes : (pick : ℕ) (f : Fired TalkName) → fires same_talker s.book (talk_of s t) branches pick ≡ Some f → KeepsOrder (goes s t f)
    order_goes pick f e = record { kept = (fires_ways s.book branches same_talker (talk_of s t) KeepsFired ways f pick e).kept }

  -- ---- a channel given up

  given_one : (c : ℕ) (o : Option Channel) → channel s.book.channels c ≡ o → KeepsOrder (or_trap s t (gives_up_one s.book c o) (λ book. answer (with_went (lost s c) (with_book book s)) t []))
  given_one c None there = record { kept = subst (λ l. IsKeptOrder (s.went ++ Lost c l ∷ []) s.book.channels) (sym (ap held_of there)) nothing }
    where
      nothing : IsKeptOrder (s.went ++ Lost c [] ∷ []) s.book.channels
      nothing = record { queue = λ d. kept_queue s.went s.book.channels q c _ s.book.channels d (none d); unlost = λ d. kept_open s.went s.book.channels q c _ s.book.channels d (none d) }
        where
          none : (d : ℕ) → LeavesChannel s.went s.book.channels q c (Lost c [] ∷ []) s.book.channels d
          none d = record { puts = refl; gets = refl; lost = elim (c == d) as (λ b. ◌≡◌ {A = List (List ℕ)} (cond b [] []) []) [ true ↦ refl | false ↦ refl ]; same = refl }
  given_one c (Some ch) there = on ch.given_up refl (is_waited_for s.book c)
    where
      on : (u : Bool) → ch.given_up ≡ u → (v : Bool) → KeepsOrder (or_trap s t (cond u (Err Chan) (cond v (Err Busy) (Ok (record s.book { channels = with_channel c without_values s.book.channels })))) (λ book. answer (with_went (lost s c) (with_book book s)) t []))
      on true e v = record { kept = q }
      on false e true = record { kept = q }
      on false e false = record { kept = order_given_up c ch there e }

  order_acts : (act : Act) → KeepsOrder (acts s t act)
  order_acts (NewChan capacity words) = record { kept = order_new (new_channel capacity words) refl }
  order_acts (FreeChan c) = given_one c (channel s.book.channels c) refl
  order_acts act = search (order_if, order_or_trap, order_same)

-- ---- each entry, and each run

order_performs : (s : Shared) (t : TaskName) → IsKeptOrder s.went s.book.channels → (act : Act) (pick : ℕ) → IfSome' KeepsOrder (performs s t act pick)
order_performs s t q act pick =
    performs_cases KeepsOrder s t (record { kept = q }) (λ bs k f fine e. order_goes s t q bs fine k f e) act pick (order_acts s t q act)

module _ (K : Kind) where
  abbrev OrderIn : World K → Type 0
  OrderIn w = IsKeptOrder w.shared.went w.shared.book.channels

  order_step : (w v : World K) (e : Entry) → OrderIn w → step K w e ≡ Some v → OrderIn v
  order_step w v e q h =
      let x = step_by K w v e h in
      subst OrderIn x.is (got_some KeepsOrder _ x.effect (order_performs w.shared x.task q _ e.pick) x.comes).kept

  pub is_in_order : IsInOrder K
  is_in_order region globals start h w r =
      record { in_order = (along K OrderIn order_step h _ w (at_start (with_globals region globals [])) r).queue }
    where
      nothing : (c : ℕ) → ◌≡◌ {A = List (List ℕ)} [] (held_of (channel [] c))
      nothing zero = refl
      nothing (suc c) = refl

      none : (c : ℕ) → NothingLost [] c (channel [] c)
      none zero = refl
      none (suc c) = refl

      at_start : (o : Option (List Live)) → IsKeptOrder (opening_with region o).went (opening_with region o).book.channels
      at_start None = record { queue = nothing; unlost = none }
      at_start (Some store) = record { queue = nothing; unlost = none }
