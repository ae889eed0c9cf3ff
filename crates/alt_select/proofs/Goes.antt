-- What a branch does that goes.
use Rattle.std.proofs.Common.{◌≡◌, ◌≢◌, ℕ, zero, suc, ◌<◌, Bool, true, false, cond, ◌==◌, List, [], ◌∷◌, ◌++◌, length, filter, drop, refl, sym, ap, ap₂, ◌∙◌, subst, arith, Option, Some, None, option_map, slice_get, eqb, eq-eqb, ne_eqb}
use Rattle.std.specs.List.{list_any}
use Rattle.std.proofs.lemmas.Option.{same_Some}
use Rattle.std.proofs.lemmas.Bool.Decides.{nat_tests}
use Rattle.al_event.specs.declared.act.Branch.{Branch}
use Rattle.al_world.specs.Channels.{Channel, Offer, Book, opposites, channel, with_channel, changed_at}
use Rattle.al_world.specs.Talks as talks
use Rattle.al_world.specs.Transfers.{IsIn}
use Rattle.chan_book.specs.declared.book.Waiter.{Waiter}
use Rattle.chan_book.specs.Named.{waiter_of}
use Rattle.chan_book.specs.Book.{Bounded, is_blocked, IsOpen}
use Rattle.alt_select.specs.Answer.{IsOf, Waits, IsFilled, is_full}

-- what passes a test is in the list
in_later : {X : Type 0} (y x : X) (ys : List X) → IsIn ys x → IsIn (y ∷ ys) x
in_later y x ys h = record { at = suc h.at; is = h.is }

in_filter : {X : Type 0} (test : X → Bool) (xs : List X) (i : ℕ) (x : X) → slice_get (filter test xs) i ≡ Some x → IsIn xs x
in_filter test [] i x e = absurd (cc)
in_filter test (y ∷ ys) i x e = on (test y) i e (λ k g. in_filter test ys k x g)
  where
    on : (b : Bool) (i : ℕ) → slice_get (cond b (y ∷ filter test ys) (filter test ys)) i ≡ Some x → ((k : ℕ) → slice_get (filter test ys) k ≡ Some x → IsIn ys x) → IsIn (y ∷ ys) x
    on true zero g rest = record { at = 0; is = g }
    on true (suc k) g rest = in_later y x ys (rest k g)
    on false i g rest = in_later y x ys (rest i g)

-- who has a waiting branch is blocked
pub blocked_of : (book : Book ℕ) (w : Waiter) (o : Offer ℕ) → IsOf book w o → is_blocked book w.task ≡ true
blocked_of book w o h = any_at book.waiting h.within.at h.within.is
  where
    by : o.by == w.task ≡ true
    by = eq-eqb o.by w.task (ap (λ (x : Waiter). x.task) h.is)

    any_at : (xs : List (Offer ℕ)) (i : ℕ) → slice_get xs i ≡ Some o → list_any (λ (o : Offer ℕ). o.by == w.task) xs ≡ true
    any_at [] i e = absurd (cc)
    any_at (x ∷ xs) zero e = rw (same_Some x o e, by) refl
    any_at (x ∷ xs) (suc i) e = let rest = any_at xs i e in grind (arith, rest)

-- the number of a waiting branch is one of its talk
pub number_within : (book : Book ℕ) (w : Waiter) (talk : List Branch) → Waits book w → ((o : Offer ℕ) → IsIn book.waiting o → o.by ≡ w.task → slice_get talk o.number ≡ Some o.branch) → w.number < length talk
number_within book w talk h f =
    let of : IsOf book w h.offer = h.of in
    subst (λ n. n < length talk) (ap (λ (x : Waiter). x.number) of.is) (below talk h.offer.number h.offer.branch (f h.offer of.within (ap (λ (x : Waiter). x.task) of.is)))
  where
    below : (xs : List Branch) (i : ℕ) (x : Branch) → slice_get xs i ≡ Some x → i < length xs
    below [] i x e = absurd (cc)
    below (y ∷ ys) zero x e = omega arith
    below (y ∷ ys) (suc i) x e = let rest = below ys i x e in omega (arith, rest)

-- the first of the opposite branches waits
pub first_waits : (book : Book ℕ) (b : Branch) (i : ℕ) (w : Waiter) → Some w ≡ option_map waiter_of (slice_get (opposites book.waiting b) i) → (o : Offer ℕ) × (IsOf book w o × (slice_get (opposites book.waiting b) i ≡ Some o))
first_waits book b i w e = on (slice_get (opposites book.waiting b) i) refl e
  where
    on : (x : Option (Offer ℕ)) → slice_get (opposites book.waiting b) i ≡ x → Some w ≡ option_map waiter_of x → (o : Offer ℕ) × (IsOf book w o × (slice_get (opposites book.waiting b) i ≡ Some o))
    on None f g = absurd (cc)
    on (Some o) f g = (o, (record { within = in_filter _ book.waiting i o f; is = sym (same_Some w (waiter_of o) g) }, f))

-- nobody waits
pub none_waits : (os : List (Offer ℕ)) → None ≡ option_map waiter_of (slice_get os 0) → os ≡ []
none_waits [] e = refl
none_waits (o ∷ os) e = absurd (cc)

-- a list with a first element
first_of : {X : Type 0} (xs : List X) (x : X) → slice_get xs 0 ≡ Some x → (rest : List X) × (xs ≡ x ∷ rest)
first_of [] x e = absurd (cc)
first_of (y ∷ ys) x e = (ys, ap (λ z. z ∷ ys) (same_Some y x e))

module _ (book : Book ℕ) (t i c : ℕ) (words : List ℕ) where
  -- a send, by what is held and who waits
  pub sends_over : (held : List (List ℕ)) (os : List (Offer ℕ)) (o : Offer ℕ) → (length held == 0) ≡ true → slice_get os 0 ≡ Some o → talks.sends eqb book t i c words held os ≡ talks.hands_over eqb book t i c words o
  sends_over (h ∷ held) os o e f = absurd (let off : suc (length held) ≢ 0 = omega arith in let g = ne_eqb (suc (length held)) 0 off in cc)
  sends_over [] [] o e f = absurd (cc)
  sends_over [] (x ∷ os) o e f = ap (talks.hands_over eqb book t i c words) (same_Some x o f)

  pub sends_none : (held : List (List ℕ)) (os : List (Offer ℕ)) → os ≡ [] → talks.sends eqb book t i c words held os ≡ talks.puts_in eqb book t i c words
  sends_none held (x ∷ os) e = absurd (cc)
  sends_none [] [] e = refl
  sends_none (h ∷ held) [] e = refl

  pub sends_held : (held : List (List ℕ)) (os : List (Offer ℕ)) → (length held == 0) ≡ false → talks.sends eqb book t i c words held os ≡ talks.puts_in eqb book t i c words
  sends_held [] os e = absurd (cc)
  sends_held (h ∷ held) os e = refl

module _ (book : Book ℕ) (t i c : ℕ) where
  -- a receive, by what is held and who waits
  pub receives_in : (oldest : List ℕ) (later : List (List ℕ)) (os : List (Offer ℕ)) (o : Offer ℕ) → slice_get os 0 ≡ Some o → talks.receives eqb book t i c true (oldest ∷ later) os ≡ Some (talks.lets_in eqb book t i c oldest o)
  receives_in oldest later [] o f = absurd (cc)
  receives_in oldest later (x ∷ os) o f = ap (λ y. Some (talks.lets_in eqb book t i c oldest y)) (same_Some x o f)

  pub receives_none : (full : Bool) (oldest : List ℕ) (later : List (List ℕ)) (os : List (Offer ℕ)) → os ≡ [] → talks.receives eqb book t i c full (oldest ∷ later) os ≡ Some (talks.takes_out eqb book t i c oldest)
  receives_none full oldest later (x ∷ os) e = absurd (cc)
  receives_none true oldest later [] e = refl
  receives_none false oldest later [] e = refl

  pub receives_open : (oldest : List ℕ) (later : List (List ℕ)) (os : List (Offer ℕ)) → talks.receives eqb book t i c false (oldest ∷ later) os ≡ Some (talks.takes_out eqb book t i c oldest)
  receives_open oldest later os = refl

-- ---- two changes of one channel

twice : (k : ℕ) (f g : Channel → Channel) (chs : List Channel) → changed_at k g (changed_at k f chs) ≡ changed_at k (λ ch. g (f ch)) chs
twice k f g [] = refl
twice zero f g (x ∷ xs) = refl
twice (suc k) f g (x ∷ xs) = ap (λ l. x ∷ l) (twice k f g xs)

pub with_channel_twice : (c : ℕ) (f g : Channel → Channel) (chs : List Channel) → with_channel c g (with_channel c f chs) ≡ with_channel c (λ ch. g (f ch)) chs
with_channel_twice zero f g chs = refl
with_channel_twice (suc k) f g chs = twice k f g chs

get_changed : (k : ℕ) (f : Channel → Channel) (chs : List Channel) → slice_get (changed_at k f chs) k ≡ option_map f (slice_get chs k)
get_changed k f [] = refl
get_changed zero f (x ∷ xs) = refl
get_changed (suc k) f (x ∷ xs) = get_changed k f xs

pub channel_changed : (c : ℕ) (f : Channel → Channel) (chs : List Channel) → channel (with_channel c f chs) c ≡ option_map f (channel chs c)
channel_changed zero f chs = refl
channel_changed (suc k) f chs = get_changed k f chs

-- the number of a channel that gave its oldest value has room
pub open_after : (chs : List Channel) (c : ℕ) → IsFilled chs c → is_full (channel chs c) ≡ true → IsOpen (talks.with_held c (λ held. drop 1 held) chs) c
open_after chs c h full = record {
  at = record h.at { held = drop 1 h.at.held };
  is = channel_changed c (λ ch. record ch { held = drop 1 ch.held }) chs ∙ ap (option_map (λ (ch : Channel). record ch { held = drop 1 ch.held })) h.is;
  usable = h.usable;
  room = shorter h.at.held h.at.capacity h.some (sym (ap is_full h.is) ∙ full);
}
  where
    shorter : (l : List (List ℕ)) (n : ℕ) → 0 < length l → (length l == n) ≡ true → length (drop 1 l) < n
    shorter [] n lt e = absurd (omega arith)
    shorter (x ∷ xs) n lt e = grind (arith, nat_tests)

abbrev with_value : ℕ → List ℕ → Book ℕ → Book ℕ
with_value c words b = record b { channels = talks.with_held c (λ held. held ++ words ∷ []) b.channels }

-- the book after the oldest value was taken, a talk was withdrawn, and its words came in
pub let_in_book : (u v w x : Bounded) (c by : ℕ) (words : List ℕ) (o : Offer ℕ) → v ≡ record u { book = record u.book { channels = talks.with_held c (λ held. drop 1 held) u.book.channels } } → w ≡ record v { book = talks.withdraws eqb by v.book } → x ≡ record w { book = record w.book { channels = talks.with_held c (λ held. held ++ words ∷ []) w.book.channels } } → by ≡ o.by → words ≡ talks.words_of o → talks.withdraws eqb o.by (record u.book { channels = talks.with_held c (λ held. drop 1 held ++ talks.words_of o ∷ []) u.book.channels }) ≡ x.book
let_in_book u v w x c by words o e f g same said = sym (
    ap (λ (y : Bounded). y.book) g
    ∙ ap (λ (y : Bounded). with_value c words y.book) f
    ∙ ap (λ (y : Bounded). with_value c words (talks.withdraws eqb by y.book)) e
    ∙ ap (λ (l : List Channel). talks.withdraws eqb by (record u.book { channels = l })) (with_channel_twice c (λ ch. record ch { held = drop 1 ch.held }) (λ ch. record ch { held = ch.held ++ words ∷ [] }) u.book.channels)
    ∙ ap₂ (λ b (l : List ℕ). talks.withdraws eqb b (record u.book { channels = talks.with_held c (λ held. drop 1 held ++ l ∷ []) u.book.channels })) same said)

-- the oldest value
pub oldest_is : (held later : List (List ℕ)) (x y : List ℕ) → held ≡ x ∷ drop 1 held → held ≡ y ∷ later → y ≡ x
oldest_is held later x y e f = let g : y ∷ later ≡ x ∷ drop 1 held = sym f ∙ e in cc

pub held_parts : (held : List (List ℕ)) → 0 < length held → (oldest : List ℕ) × ((later : List (List ℕ)) × (held ≡ oldest ∷ later))
held_parts [] lt = absurd (omega arith)
held_parts (x ∷ xs) lt = (x, (xs, refl))
