-- The store holds bytes, and channels and blocked talks hold proper words, along every run; so each answer fits.
use Rattle.std.proofs.Common.{◌≡◌, ◌≢◌, ℕ, zero, suc, ◌+◌, ◌≤◌, List, [], ◌∷◌, ◌++◌, Bool, true, false, cond, ◌==◌, ◌&&◌, not, length, drop, Option, Some, None, is_some, is_none, Result, Ok, Err, option_map, refl, sym, ap, ◌∙◌, subst, subst₂, ◌⊎◌, inl, inr, arith, length-append}
use Rattle.std.specs.Prelude.{slice_get, unwrap_or}
use Rattle.std.specs.List.{AllByRecursion, list_any}
use Rattle.std.proofs.lemmas.Option.{same_Some}
use Rattle.std.proofs.lemmas.Bool.{eqb-true}
use Rattle.std.proofs.lemmas.Bool.Decides.{eqb_tells}
use Rattle.al_base.specs.declared.trap.Trap.{Trap}
use Rattle.al_base.specs.declared.trap.Trap.TheVariants.{Chan, Busy}
use Rattle.al_event.specs.Store.{Live, store_word, alloc_block, free_block}
use Rattle.al_event.specs.declared.act.Block.{Block}
use Rattle.al_event.specs.declared.act.Branch.{Branch}
use Rattle.al_event.specs.declared.act.Act.{Act}
use Rattle.al_event.specs.declared.act.Act.TheVariants.{Store, Alloc, Free, NewChan, FreeChan, Talk}
use Rattle.al_world.specs.Channels.{Channel, Offer, Book, changed_at, channel, with_channel, new_channel, without_values, is_usable, takes_words, is_bad, has_bad, gives_up_one, is_waited_for}
use Rattle.al_world.specs.Talks.{Woken, Fired, fires, with_held, words_of, meets, offers_from}
use Rattle.al_world.specs.World.{TaskName, TalkName, same_talker, Shared, Effect}
use Rattle.al_world.specs.Actions.{acts, performs, or_trap, or_free_trap, answer, with_store, with_book, with_went, lost, talk_of}
use Rattle.al_world.specs.Transfers.{IsIn}
use Rattle.al_world.specs.Answers.{AreWords, SendsWords, IsProper}
use Rattle.al_world.proofs.Lists.{any_false_at, same_ok, all_to, all_append, all_filter, all_at, and_true, or_false, true_false}
use Rattle.al_world.proofs.Cases.{IfSome', at_zero_cases, talks_cases}
use Rattle.al_world.proofs.Fires.{fires_ways, Ways, IsBranch, IsPartner}
use Rattle.al_world.specs.Sound.{Offers}
use Rattle.al_world.proofs.Roles.{Without}
use Rattle.al_world.proofs.Queues.{channel-same, channel-other}
use Rattle.al_world.proofs.Fit.{HoldsBytes, Received, store_bytes, alloc_placed, freed_bytes}

-- ---- what is kept

-- the values of a channel have its words
abbrev pub HoldsWords : Channel → Type 0
HoldsWords ch = AllByRecursion (AreWords ch.words) ch.held

-- the channel of this number takes so many words
pub record Takes (channels : List Channel) (c n : ℕ) : Type 0 where
  pub channel_is : Channel
  pub there : channel channels c ≡ Some channel_is
  pub words : channel_is.words ≡ n

-- a branch that waits has the words of its channel, and sends as many
pub record OfferOk (channels : List Channel) (o : Offer TalkName) : Type 0 where
  pub takes : Takes channels o.branch.chan o.branch.words
  pub sends : SendsWords o.branch.words o.branch.send

pub record BookOk (book : Book TalkName) : Type 0 where
  pub held : AllByRecursion HoldsWords book.channels
  pub offers : AllByRecursion (OfferOk book.channels) book.waiting

-- every channel stays, with its words
record SameWords (before now : List Channel) : Type 0 where
  same : (c n : ℕ) → Takes before c n → Takes now c n

same_with : (c : ℕ) (f : Channel → Channel) (channels : List Channel) → ((ch : Channel) → (f ch).words ≡ ch.words) → SameWords channels (with_channel c f channels)
same_with c f channels keeps = record { same = λ d n t. on d n t (eqb_tells d c) }
  where
    on : (d n : ℕ) → Takes channels d n → ((d == c ≡ true) × (d ≡ c)) ⊎ ((d == c ≡ false) × (d ≢ c)) → Takes (with_channel c f channels) d n
    on d n t (inl e) = record {
      channel_is = f t.channel_is;
      there = subst (λ d. channel (with_channel c f channels) d ≡ Some (f t.channel_is)) (sym e.1) (channel-same c f channels ∙ ap (option_map f) (subst (λ d. channel channels d ≡ Some t.channel_is) e.1 t.there));
      words = keeps t.channel_is ∙ t.words;
    }
    on d n t (inr e) = record { channel_is = t.channel_is; there = channel-other c d f channels e.1 ∙ t.there; words = t.words }

same_new : (channels : List Channel) (ch : Channel) → SameWords channels (channels ++ ch ∷ [])
same_new channels ch = record { same = λ c n t. record { channel_is = t.channel_is; there = at c t.channel_is t.there; words = t.words } }
  where
    get : (k : ℕ) (chs : List Channel) (x : Channel) → slice_get chs k ≡ Some x → slice_get (chs ++ ch ∷ []) k ≡ Some x
    get k [] x e = absurd (cc)
    get zero (y ∷ ys) x e = e
    get (suc k) (y ∷ ys) x e = get k ys x e

    at : (c : ℕ) (x : Channel) → channel channels c ≡ Some x → channel (channels ++ ch ∷ []) c ≡ Some x
    at zero x e = absurd (cc)
    at (suc k) x e = get k channels x e

offers_same : (before now : List Channel) (ws : Offers) → SameWords before now → AllByRecursion (OfferOk before) ws → AllByRecursion (OfferOk now) ws
offers_same before now ws s h =
    all_to _ _ (λ (o : Offer TalkName) k. record { takes = s.same o.branch.chan o.branch.words k.takes; sends = k.sends }) ws h

-- a change of channel c
held_with : (c : ℕ) (f : Channel → Channel) (channels : List Channel) → ((ch : Channel) → channel channels c ≡ Some ch → HoldsWords ch → HoldsWords (f ch)) → AllByRecursion HoldsWords channels → AllByRecursion HoldsWords (with_channel c f channels)
held_with zero f channels g h = h
held_with (suc k) f channels g h = on k channels g h
  where
    on : (k : ℕ) (chs : List Channel) → ((ch : Channel) → slice_get chs k ≡ Some ch → HoldsWords ch → HoldsWords (f ch)) → AllByRecursion HoldsWords chs → AllByRecursion HoldsWords (changed_at k f chs)
    on k [] g h = tt
    on zero (x ∷ xs) g h = (g x refl h.0, h.1)
    on (suc k) (x ∷ xs) g h = (h.0, on k xs g h.1)

all_drop_one : {X : Type 0} (P : X → Type 0) (xs : List X) → AllByRecursion P xs → AllByRecursion P (drop 1 xs)
all_drop_one P [] h = tt
all_drop_one P (x ∷ xs) h = h.1

-- ---- a talk that goes

-- the other task receives what its branch does
pub record WokenOk (waiting : Offers) (w : Woken TalkName) : Type 0 where
  pub chosen : Offer TalkName
  pub waits : IsIn waiting chosen
  pub by : w.by ≡ chosen.by
  pub branch : w.branch ≡ chosen.number
  pub words : Received chosen.branch.words chosen.branch.send w.words

abbrev pub WokeOk : Offers → Option (Woken TalkName) → Type 0
WokeOk waiting None = Unit {0}
WokeOk waiting (Some w) = WokenOk waiting w

pub record FiredOk (book : Book TalkName) (branches : List Branch) (f : Fired TalkName) : Type 0 where
  pub branch_is : Branch
  pub at : slice_get branches f.branch ≡ Some branch_is
  pub words : Received branch_is.words branch_is.send f.words
  pub woke : WokeOk book.waiting f.woke
  pub kept : BookOk f.book
  pub as_many : length f.book.channels ≡ length book.channels

length-with : (c : ℕ) (f : Channel → Channel) (channels : List Channel) → length (with_channel c f channels) ≡ length channels
length-with zero f channels = refl
length-with (suc k) f channels = on k channels
  where
    on : (k : ℕ) (chs : List Channel) → length (changed_at k f chs) ≡ length chs
    on k [] = refl
    on zero (x ∷ xs) = refl
    on (suc k) (x ∷ xs) = ap suc (on k xs)

-- a channel that does not make a branch trap has the branch's words
words_agree : (b : Branch) (ch : Channel) → not (not ch.given_up && (ch.words == b.words)) ≡ false → ch.words ≡ b.words
words_agree b ch h = on (not ch.given_up) (ch.words == b.words) refl h
  where
    on : (u v : Bool) → (ch.words == b.words) ≡ v → not (u && v) ≡ false → ch.words ≡ b.words
    on u true e h = eqb-true _ _ e
    on true false e h = absurd (true_false h)
    on false false e h = absurd (true_false h)

module _ (book : Book TalkName) (ok : BookOk book) (t : TalkName) (branches : List Branch) (proper : AllByRecursion (λ (b : Branch). SendsWords b.words b.send) branches) (fine : has_bad book branches ≡ false) where
  -- the channel of a branch that does not trap has its words
  words_of_channel : (i : ℕ) (b : Branch) (ch : Channel) → IsBranch book branches i b ch → ch.words ≡ b.words
  words_of_channel i b ch at =
      words_agree b ch (subst (λ o. not (is_usable o && takes_words b.words o) ≡ false) at.on (any_false_at (is_bad book.channels) branches i b fine at.at))

  -- what branch b sends has its words
  sent_words : (i : ℕ) (b : Branch) (ch : Channel) (words : List ℕ) → IsBranch book branches i b ch → b.send ≡ Some words → AreWords b.words words
  sent_words i b ch words at e =
      let h : SendsWords b.words b.send = all_at (λ (b : Branch). SendsWords b.words b.send) branches b proper (record { at = i; is = at.at }) in subst (SendsWords b.words) e h

  offer_ok : (b : Branch) (o : Offer TalkName) → IsPartner book.waiting b o → OfferOk book.channels o
  offer_ok b o p = all_at _ book.waiting o ok.offers p.waits

  -- opposite branches have the words of their channel
  same_words : (i : ℕ) (b : Branch) (ch : Channel) (o : Offer TalkName) → IsBranch book branches i b ch → IsPartner book.waiting b o → o.branch.words ≡ b.words
  same_words i b ch o at p =
      let k = (offer_ok b o p).takes in
      let c : b.chan ≡ o.branch.chan = eqb-true _ _ (and_true _ _ p.opposite).0 in
      let e : k.channel_is ≡ ch = same_Some k.channel_is ch (sym k.there ∙ ap (channel book.channels) (sym c) ∙ at.on) in
      sym k.words ∙ ap (λ (c : Channel). c.words) e ∙ words_of_channel i b ch at

  -- where b sends, the other receives, and the other way round
  other_receives : (b : Branch) (o : Offer TalkName) (words : List ℕ) → IsPartner book.waiting b o → b.send ≡ Some words → o.branch.send ≡ None
  other_receives b o words p e =
      none_of o.branch.send (subst (λ w. cond (is_some w) (is_none o.branch.send) (is_some o.branch.send) ≡ true) e (and_true _ _ p.opposite).1)
    where
      none_of : (send : Option (List ℕ)) → is_none send ≡ true → send ≡ None
      none_of None h = refl
      none_of (Some words) h = absurd (cc)

  other_sends : (b : Branch) (o : Offer TalkName) → IsPartner book.waiting b o → b.send ≡ None → o.branch.send ≡ Some (words_of o)
  other_sends b o p e =
      some_of o.branch.send (subst (λ w. cond (is_some w) (is_none o.branch.send) (is_some o.branch.send) ≡ true) e (and_true _ _ p.opposite).1)
    where
      some_of : (send : Option (List ℕ)) → is_some send ≡ true → send ≡ Some (unwrap_or send [])
      some_of None h = absurd (cc)
      some_of (Some words) h = refl

  -- the words that the other sends have the words of b
  other_words : (i : ℕ) (b : Branch) (ch : Channel) (o : Offer TalkName) → IsBranch book branches i b ch → IsPartner book.waiting b o → b.send ≡ None → AreWords b.words (words_of o)
  other_words i b ch o at p e =
      let h : AreWords o.branch.words (words_of o) = subst (SendsWords o.branch.words) (other_sends b o p e) (offer_ok b o p).sends in
      subst (λ n. AreWords n (words_of o)) (same_words i b ch o at p) h

  woken_receives : (i : ℕ) (b : Branch) (ch : Channel) (o : Offer TalkName) (words : List ℕ) → IsBranch book branches i b ch → IsPartner book.waiting b o → b.send ≡ Some words → Received o.branch.words o.branch.send words
  woken_receives i b ch o words at p e =
      subst (λ s. Received o.branch.words s words) (sym (other_receives b o words p e)) (subst (λ n. AreWords n words) (sym (same_words i b ch o at p)) (sent_words i b ch words at e))

  woken_sent : (b : Branch) (o : Offer TalkName) → IsPartner book.waiting b o → b.send ≡ None → Received o.branch.words o.branch.send []
  woken_sent b o p e = subst (λ s. Received o.branch.words s []) (sym (other_sends b o p e)) refl

  sent_nothing : (b : Branch) (words : List ℕ) → b.send ≡ Some words → Received b.words b.send []
  sent_nothing b words e = subst (λ s. Received b.words s []) (sym e) refl

  received_words : (b : Branch) (words : List ℕ) → b.send ≡ None → AreWords b.words words → Received b.words b.send words
  received_words b words e h = subst (λ s. Received b.words s words) (sym e) h

  withdrawn : (u : TalkName) → BookOk (record book { waiting = Without u book.waiting })
  withdrawn u = record { held = ok.held; offers = all_filter _ _ book.waiting ok.offers }

  -- a value of the channel of b
  held_words : (i : ℕ) (b : Branch) (ch : Channel) (words : List ℕ) → IsBranch book branches i b ch → AreWords b.words words → (c : Channel) → channel book.channels b.chan ≡ Some c → AreWords c.words words
  held_words i b ch words at h c e =
      let same : ch ≡ c = same_Some ch c (sym at.on ∙ e) in subst (λ (c : Channel). AreWords c.words words) same (subst (λ n. AreWords n words) (sym (words_of_channel i b ch at)) h)

  -- the oldest value of the channel of b
  oldest : (i : ℕ) (b : Branch) (ch : Channel) (words : List ℕ) (rest : List (List ℕ)) → IsBranch book branches i b ch → ch.held ≡ words ∷ rest → AreWords b.words words
  oldest i b ch words rest at e =
      let h : HoldsWords ch = channel_ok b.chan ch at.on in
      subst (λ n. AreWords n words) (words_of_channel i b ch at) (subst (AllByRecursion (AreWords ch.words)) e h).0
    where
      channel_ok : (c : ℕ) (ch : Channel) → channel book.channels c ≡ Some ch → HoldsWords ch
      channel_ok zero ch e = absurd (cc)
      channel_ok (suc k) ch e = all_at HoldsWords book.channels ch ok.held (record { at = k; is = e })

  changed : (c : ℕ) (f : List (List ℕ) → List (List ℕ)) (ws : Offers) → AllByRecursion (OfferOk book.channels) ws → ((ch : Channel) → channel book.channels c ≡ Some ch → HoldsWords ch → AllByRecursion (AreWords ch.words) (f ch.held)) → BookOk (record { channels = with_held c f book.channels; waiting = ws })
  changed c f ws h g = record {
    held = held_with c (λ ch. record ch { held = f ch.held }) book.channels g ok.held;
    offers = offers_same book.channels _ ws (same_with c (λ ch. record ch { held = f ch.held }) book.channels (λ ch. refl)) h;
  }

  meets_way : (i : ℕ) (b : Branch) (ch : Channel) (o : Offer TalkName) → IsBranch book branches i b ch → IsPartner book.waiting b o → (send : Option (List ℕ)) → b.send ≡ send → FiredOk book branches (meets same_talker book t i b.chan send o)
  meets_way i b ch o at p (Some words) e = record {
    branch_is = b;
    at = at.at;
    words = sent_nothing b words e;
    woke = record { chosen = o; waits = p.waits; by = refl; branch = refl; words = woken_receives i b ch o words at p e };
    kept = withdrawn o.by;
    as_many = refl;
  }
  meets_way i b ch o at p None e = record {
    branch_is = b;
    at = at.at;
    words = received_words b (words_of o) e (other_words i b ch o at p e);
    woke = record { chosen = o; waits = p.waits; by = refl; branch = refl; words = woken_sent b o p e };
    kept = withdrawn o.by;
    as_many = refl;
  }

  ways : Ways book branches same_talker t (FiredOk book branches)
  ways = record {
    q_meets = λ i b ch o at z p. meets_way i b ch o at p b.send refl;
    q_hands_over = λ i b ch words o at z sn h p. record {
      branch_is = b;
      at = at.at;
      words = sent_nothing b words sn;
      woke = record { chosen = o; waits = p.waits; by = refl; branch = refl; words = woken_receives i b ch o words at p sn };
      kept = withdrawn o.by;
      as_many = refl;
    };
    q_puts_in = λ i b ch words at z sn. record {
      branch_is = b;
      at = at.at;
      words = sent_nothing b words sn;
      woke = tt;
      kept = changed b.chan (λ held. held ++ words ∷ []) book.waiting ok.offers (λ c e h. all_append _ c.held _ h (held_words i b ch words at (sent_words i b ch words at sn) c e, tt));
      as_many = length-with b.chan _ book.channels;
    };
    q_takes_out = λ i b ch words rest at z sn h. record {
      branch_is = b;
      at = at.at;
      words = received_words b words sn (oldest i b ch words rest at h);
      woke = tt;
      kept = changed b.chan (λ held. drop 1 held) book.waiting ok.offers (λ c e h. all_drop_one _ c.held h);
      as_many = length-with b.chan _ book.channels;
    };
    q_lets_in = λ i b ch words rest o at z sn h p. record {
      branch_is = b;
      at = at.at;
      words = received_words b words sn (oldest i b ch words rest at h);
      woke = record { chosen = o; waits = p.waits; by = refl; branch = refl; words = woken_sent b o p sn };
      kept = changed b.chan (λ held. drop 1 held ++ words_of o ∷ []) (Without o.by book.waiting) (all_filter _ _ book.waiting ok.offers) (λ c e h. all_append _ (drop 1 c.held) _ (all_drop_one _ c.held h) (held_words i b ch (words_of o) at (other_words i b ch o at p sn) c e, tt));
      as_many = length-with b.chan _ book.channels;
    };
  }

  pub fired_ok : (pick : ℕ) (f : Fired TalkName) → fires same_talker book t branches pick ≡ Some f → FiredOk book branches f
  fired_ok pick f e = fires_ways book branches same_talker t (FiredOk book branches) ways f pick e

-- ---- each effect

-- the store holds bytes, the book is proper, and there are fewer channels than entries were made
pub record Fitting (region : ℕ) (store : List Live) (book : Book TalkName) (entries : ℕ) : Type 0 where
  pub bytes : AllByRecursion HoldsBytes store
  pub proper : BookOk book
  pub few : length book.channels ≤ entries
  pub small : region ≤ 0x10000000

abbrev pub FitIn : Shared → ℕ → Type 0
FitIn s entries = Fitting s.region s.store s.book entries

-- after an effect there is one entry more
pub record KeepsFit (s : Shared) (e : Effect) : Type 0 where
  pub kept : FitIn e.shared (s.entries + 1)
  pub counts : e.shared.entries ≡ s.entries

module _ (s : Shared) (t : TaskName) (q : FitIn s s.entries) where
  fit_now : FitIn s (s.entries + 1)
  fit_now = record { bytes = q.bytes; proper = q.proper; few = omega (arith, q.few); small = q.small }

  fit_book : (book : Book TalkName) → BookOk book → length book.channels ≤ s.entries + 1 → Fitting s.region s.store book (s.entries + 1)
  fit_book book ok few = record { bytes = q.bytes; proper = ok; few = few; small = q.small }

  fit_store : (store : List Live) → AllByRecursion HoldsBytes store → Fitting s.region store s.book (s.entries + 1)
  fit_store store h = record { bytes = h; proper = q.proper; few = omega (arith, q.few); small = q.small }

  keeps_or_trap : {X : Type 0} (r : Result X Trap) (f : X → Effect) → ((x : X) → r ≡ Ok x → KeepsFit s (f x)) → KeepsFit s (or_trap s t r f)
  keeps_or_trap (Ok x) f h = h x refl
  keeps_or_trap (Err trap) f h = record { kept = fit_now; counts = refl }

  keeps_if : (b : Bool) (x y : Effect) → KeepsFit s x → KeepsFit s y → KeepsFit s (cond b x y)
  keeps_if true x y h k = h
  keeps_if false x y h k = k

  -- region, store, book and number of entries stay
  keeps_same : (e : Effect) → s.region ≡ e.shared.region → s.store ≡ e.shared.store → s.book ≡ e.shared.book → s.entries ≡ e.shared.entries → KeepsFit s e
  keeps_same e r x b n = record {
    kept = subst (λ r. Fitting r e.shared.store e.shared.book (s.entries + 1)) r (subst₂ (λ x b. Fitting s.region x b (s.entries + 1)) x b fit_now);
    counts = sym n;
  }

  keeps_store : (r : Result (List Live) Trap) → ((store : List Live) → r ≡ Ok store → AllByRecursion HoldsBytes store) → KeepsFit s (or_trap s t r (λ store. answer (with_store store s) t []))
  keeps_store (Ok store) h = record { kept = fit_store store (h store refl); counts = refl }
  keeps_store (Err trap) h = record { kept = fit_now; counts = refl }

  keeps_alloc : (r : Result (ℕ × List Live) Trap) → ((x : ℕ × List Live) → r ≡ Ok x → AllByRecursion HoldsBytes x.1) → KeepsFit s (or_trap s t r (λ r. answer (with_store r.1 s) t (r.0 ∷ [])))
  keeps_alloc (Ok x) h = record { kept = fit_store x.1 (h x refl); counts = refl }
  keeps_alloc (Err trap) h = record { kept = fit_now; counts = refl }

  freed_of : (at : ℕ) (kind : Block) (r : Result (List Live) Trap) → free_block s.store at kind ≡ r → (store : List Live) → or_free_trap kind r ≡ Ok store → AllByRecursion HoldsBytes store
  freed_of at kind (Ok x) e store h = let same : x ≡ store = same_ok x store h in subst (AllByRecursion HoldsBytes) same (freed_bytes s.store at kind x q.bytes e)
  freed_of at kind (Err trap) e store h = absurd (cc)

  keeps_new : (capacity words : ℕ) → KeepsFit s (acts s t (NewChan capacity words))
  keeps_new capacity words = record {
    kept = fit_book _ (record {
      held = all_append HoldsWords s.book.channels (new_channel capacity words ∷ []) q.proper.held (tt, tt);
      offers = offers_same s.book.channels _ s.book.waiting (same_new s.book.channels (new_channel capacity words)) q.proper.offers;
    }) (let few = q.few in let n = length-append s.book.channels (new_channel capacity words ∷ []) in omega arith);
    counts = refl;
  }

  keeps_given : (c : ℕ) (o : Option Channel) → KeepsFit s (or_trap s t (gives_up_one s.book c o) (λ book. answer (with_went (lost s c) (with_book book s)) t []))
  keeps_given c None = record { kept = fit_now; counts = refl }
  keeps_given c (Some ch) = on ch.given_up (is_waited_for s.book c)
    where
      given : Fitting s.region s.store (record s.book { channels = with_channel c without_values s.book.channels }) (s.entries + 1)
      given = fit_book _ (record {
        held = held_with c without_values s.book.channels (λ ch e h. tt) q.proper.held;
        offers = offers_same s.book.channels _ s.book.waiting (same_with c without_values s.book.channels (λ ch. refl)) q.proper.offers;
      }) (let few = q.few in let n = length-with c without_values s.book.channels in omega arith)

      on : (u v : Bool) → KeepsFit s (or_trap s t (cond u (Err Chan) (cond v (Err Busy) (Ok (record s.book { channels = with_channel c without_values s.book.channels })))) (λ book. answer (with_went (lost s c) (with_book book s)) t []))
      on true v = record { kept = fit_now; counts = refl }
      on false true = record { kept = fit_now; counts = refl }
      on false false = record { kept = given; counts = refl }

  takes_of : (b : Branch) (o : Option Channel) → channel s.book.channels b.chan ≡ o → is_bad s.book.channels b ≡ false → Takes s.book.channels b.chan b.words
  takes_of b None e h = absurd (true_false (subst (λ o. not (is_usable o && takes_words b.words o) ≡ false) e h))
  takes_of b (Some ch) e h = record { channel_is = ch; there = e; words = words_agree b ch (subst (λ o. not (is_usable o && takes_words b.words o) ≡ false) e h) }

  -- the branches of a talk that blocks
  blocked_offers : (n : TalkName) (i : ℕ) (bs : List Branch) → AllByRecursion (λ (b : Branch). SendsWords b.words b.send) bs → list_any (is_bad s.book.channels) bs ≡ false → AllByRecursion (OfferOk s.book.channels) (offers_from n i bs)
  blocked_offers n i [] p h = tt
  blocked_offers n i (b ∷ bs) p h =
      (record { takes = takes_of b (channel s.book.channels b.chan) refl (or_false _ _ h).0; sends = p.0 }, blocked_offers n (i + 1) bs p.1 (or_false _ _ h).1)

  keeps_talks : (bs : List Branch) (pick : ℕ) → AllByRecursion (λ (b : Branch). SendsWords b.words b.send) bs → IfSome' (KeepsFit s) (performs s t (Talk bs) pick)
  keeps_talks bs pick p =
      talks_cases (KeepsFit s) s t bs pick (record { kept = fit_now; counts = refl })
      (λ fine. record {
        kept = fit_book _ (record { held = q.proper.held; offers = all_append _ s.book.waiting _ q.proper.offers (blocked_offers (talk_of s t) 0 bs p fine) }) (omega (arith, q.few));
        counts = refl;
      })
      (λ f fine e. let k = fired_ok s.book q.proper (talk_of s t) bs p fine pick f e in record { kept = fit_book f.book k.kept (omega (arith, q.few, k.as_many)); counts = refl })

  -- what each action keeps that is no talk
  abbrev Keeps' : Act → Type 0
  Keeps' (Talk bs) = Unit {0}
  Keeps' act = KeepsFit s (acts s t act)

  keeps_acts : (act : Act) → Keeps' act
  keeps_acts (Store at size word) = keeps_store (store_word s.store at size word) (λ x e. store_bytes s.store at size word x q.bytes e)
  keeps_acts (Alloc bytes kind) = keeps_alloc (alloc_block s.region s.store bytes kind) (λ x e. (alloc_placed s.region s.store bytes kind x q.bytes e).bytes)
  keeps_acts (Free at kind) = keeps_store (or_free_trap kind (free_block s.store at kind)) (freed_of at kind (free_block s.store at kind) refl)
  keeps_acts (NewChan capacity words) = keeps_new capacity words
  keeps_acts (FreeChan c) = keeps_given c (channel s.book.channels c)
  keeps_acts (Talk bs) = tt
  keeps_acts act = search (keeps_if, keeps_or_trap, keeps_same)

  pub keeps_performs : (act : Act) (pick : ℕ) → IsProper act → IfSome' (KeepsFit s) (performs s t act pick)
  keeps_performs (Talk bs) pick p = keeps_talks bs pick p
  keeps_performs act pick p = at_zero_cases (KeepsFit s) s t pick _ (keeps_acts act)
