-- The pair that was picked.
use Rattle.std.proofs.Common.{◌≡◌, ℕ, zero, suc, ◌<◌, ◌≤◌, Bool, true, false, cond, ◌==◌, ◌&&◌, ◌||◌, not, ltb, List, [], ◌∷◌, length, map, filter, get_or, refl, sym, ap, ap₂, ◌∙◌, subst, arith, Option, Some, None, option_map, option_and_then, slice_get, eqb, is_some, is_none}
use Rattle.std.specs.List.{AllByRecursion, list_any}
use Rattle.std.proofs.lemmas.List.{length-map}
use Rattle.std.proofs.lemmas.Option.{same_Some}
use Rattle.std.proofs.lemmas.Bool.Decides.{nat_tests}
use Rattle.al_event.specs.declared.act.Branch.{Branch}
use Rattle.al_world.specs.Channels.{Channel, Offer, Book, Pair, pair, pairs_at, ready, opposites, is_open, is_usable, takes_words, is_bad, has_bad, channel, held_of}
use Rattle.al_world.specs.Talks as talks
use Rattle.chan_book.specs.Book.{IsOnMade, IsTalk, IsThere, IsOpen}
use Rattle.chan_book.proofs.One.{channel_below}
use Rattle.alt_select.specs.Answer.{IsFilled, CanGo, receivers, senders, is_full, is_buffered}
use Rattle.alt_select.specs.Place.{IsPairAt}
use Rattle.alt_select.proofs.Counts.{count_of}

-- ---- branches that do not trap

-- a channel that a branch names, which can be used
pub record IsUsable (channels : List Channel) (b : Branch) : Type 0 where
  pub at : Channel
  pub is : channel channels b.chan ≡ Some at
  pub usable : at.given_up ≡ false

usable_one : (channels : List Channel) (b : Branch) → is_bad channels b ≡ false → IsUsable channels b
usable_one channels b h = on (channel channels b.chan) refl h
  where
    flag : (x y : Bool) → not (not x && y) ≡ false → x ≡ false
    flag false y e = refl
    flag true y e = absurd (cc)

    on : (o : Option Channel) → channel channels b.chan ≡ o → not (is_usable o && takes_words b.words o) ≡ false → IsUsable channels b
    on None e g = absurd (cc)
    on (Some ch) e g = record { at = ch; is = e; usable = flag ch.given_up (ch.words == b.words) g }

or_left : (a b : Bool) → (a || b) ≡ false → a ≡ false
or_left false b e = refl
or_left true b e = absurd (cc)

or_right : (a b : Bool) → (a || b) ≡ false → b ≡ false
or_right false b e = e
or_right true b e = absurd (cc)

pub usable_at : (channels : List Channel) (bs : List Branch) (n : ℕ) (b : Branch) → list_any (is_bad channels) bs ≡ false → slice_get bs n ≡ Some b → IsUsable channels b
usable_at channels [] n b h e = absurd (cc)
usable_at channels (x ∷ bs) zero b h e = usable_one channels b (subst (λ y. is_bad channels y ≡ false) (same_Some x b e) (or_left (is_bad channels x) (list_any (is_bad channels) bs) h))
usable_at channels (x ∷ bs) (suc n) b h e = usable_at channels bs n b (or_right (is_bad channels x) (list_any (is_bad channels) bs) h) e

all_made : (channels : List Channel) (bs : List Branch) → list_any (is_bad channels) bs ≡ false → AllByRecursion (IsOnMade channels) bs
all_made channels [] h = tt
all_made channels (b ∷ bs) h =
    let u = usable_one channels b (or_left (is_bad channels b) (list_any (is_bad channels) bs) h) in
    let below = channel_below channels b.chan u.at u.is in
    (record { some = below.0; made = below.1 }, all_made channels bs (or_right (is_bad channels b) (list_any (is_bad channels) bs) h))

pub talk_of : (book : Book ℕ) (bs : List Branch) → has_bad book bs ≡ false → 0 < length bs → length bs ≤ 64 → IsTalk book.channels bs
talk_of book bs h some few = record { some = some; most = few; made = all_made book.channels bs h }

-- ---- the branch of the pair

get_below : {X : Type 0} (xs : List X) (i : ℕ) (x : X) → slice_get xs i ≡ Some x → i < length xs
get_below [] i x e = absurd (cc)
get_below (y ∷ ys) zero x e = omega arith
get_below (y ∷ ys) (suc i) x e = let rest = get_below ys i x e in omega (arith, rest)

get_there : {X : Type 0} (xs : List X) (i : ℕ) → i < length xs → (x : X) × (slice_get xs i ≡ Some x)
get_there [] i lt = absurd (omega arith)
get_there (y ∷ ys) zero lt = (y, refl)
get_there (y ∷ ys) (suc i) lt = get_there ys i (omega arith)

pub number_below : (book : Book ℕ) (bs : List Branch) (pick number place : ℕ) → IsPairAt book bs pick number place → number < length bs
number_below book bs pick number place h = get_below bs number h.branch h.is

pub can_go : (book : Book ℕ) (bs : List Branch) (pick number place : ℕ) (h : IsPairAt book bs pick number place) → has_bad book bs ≡ false → pick < length (ready book bs) → CanGo book h.branch place
can_go book bs pick number place h fine lt =
    let u = usable_at book.channels bs number h.branch fine h.is in
    let p = get_there (ready book bs) pick lt in
    let here = get_below (pairs_at book.waiting number h.branch (channel book.channels h.branch.chan)) place p.0 (sym h.pair ∙ p.1) in
    record {
      at = u.at;
      is = u.is;
      usable = u.usable;
      there = subst (λ o. place < length (pairs_at book.waiting 0 h.branch o)) u.is (subst (λ n. place < n) (count_of book.waiting number h.branch (channel book.channels h.branch.chan)) here);
    }

-- what was read out of the talk is that branch
pub read_branch : (bs : List Branch) (n : ℕ) (b x : Branch) → slice_get bs n ≡ Some b → x ≡ get_or bs n x → x ≡ b
read_branch [] n b x e f = absurd (cc)
read_branch (y ∷ ys) zero b x e f = f ∙ same_Some y b e
read_branch (y ∷ ys) (suc n) b x e f = read_branch ys n b x e f

-- ---- the buffer

-- the opposites of a send, and of a receive
pub opposites_some : (w : List (Offer ℕ)) (b : Branch) (words : List ℕ) → b.send ≡ Some words → opposites w b ≡ opposites w (record { chan = b.chan; words = 0; send = Some [] })
opposites_some w b words e = ap (λ s. filter (λ (o : Offer ℕ). (b.chan == o.branch.chan) && cond (is_some s) (is_none o.branch.send) (is_some o.branch.send)) w) e

pub opposites_none : (w : List (Offer ℕ)) (b : Branch) → b.send ≡ None → opposites w b ≡ opposites w (record { chan = b.chan; words = 0; send = None })
opposites_none w b e = ap (λ s. filter (λ (o : Offer ℕ). (b.chan == o.branch.chan) && cond (is_some s) (is_none o.branch.send) (is_some o.branch.send)) w) e

module _ (book : Book ℕ) (b : Branch) (place : ℕ) (h : CanGo book b place) where
  capacity_is : is_buffered (channel book.channels b.chan) ≡ not (h.at.capacity == 0)
  capacity_is = ap is_buffered h.is

  flag : (x y : Bool) → not x ≡ y → x ≡ not y
  flag true y e = ap not e
  flag false y e = ap not e

  pub buffered_flag : is_buffered (channel book.channels b.chan) ≡ true → (h.at.capacity == 0) ≡ false
  buffered_flag e = flag (h.at.capacity == 0) true (sym capacity_is ∙ e)

  pub unbuffered_flag : is_buffered (channel book.channels b.chan) ≡ false → (h.at.capacity == 0) ≡ true
  unbuffered_flag e = flag (h.at.capacity == 0) false (sym capacity_is ∙ e)

  pub is_there : IsThere book.channels b.chan
  is_there = record { at = h.at; is = h.is }

  module _ (buffered : is_buffered (channel book.channels b.chan) ≡ true) where
    -- the one pair of the branch
    one_pair : (i : ℕ) → pairs_at book.waiting i b (Some h.at) ≡ cond (is_open h.at b.send) (pair i b None ∷ []) []
    one_pair i = rw (buffered_flag buffered) refl

    open_so : is_open h.at b.send ≡ true
    open_so = on (is_open h.at b.send) refl
      where
        on : (x : Bool) → is_open h.at b.send ≡ x → is_open h.at b.send ≡ true
        on true e = e
        on false e =
            let none : pairs_at book.waiting 0 b (Some h.at) ≡ [] = one_pair 0 ∙ rw e refl in
            absurd (let lt : place < length {A = Pair ℕ} [] = subst (λ (l : List (Pair ℕ)). place < length l) none h.there in omega arith)

    pub picked_buffer : (i t : ℕ) → option_and_then (λ (p : Pair ℕ). talks.goes_with eqb book t p.number p.branch p.partner) (slice_get (pairs_at book.waiting i b (channel book.channels b.chan)) place) ≡ talks.by_buffer eqb book t i b b.send (Some h.at)
    picked_buffer i t =
        let list : pairs_at book.waiting i b (channel book.channels b.chan) ≡ pair i b None ∷ [] = ap (pairs_at book.waiting i b) h.is ∙ one_pair i ∙ rw open_so refl in
        let one : pairs_at book.waiting 0 b (Some h.at) ≡ pair 0 b None ∷ [] = one_pair 0 ∙ rw open_so refl in
        let lt : place < length (pair {By = ℕ} 0 b None ∷ []) = subst (λ (l : List (Pair ℕ)). place < length l) one h.there in
        let first : place ≡ 0 = omega (arith, lt) in
        ap₂ (λ (l : List (Pair ℕ)) n. option_and_then (λ (p : Pair ℕ). talks.goes_with eqb book t p.number p.branch p.partner) (slice_get l n)) list first ∙ ap (talks.by_buffer eqb book t i b b.send) h.is

    pub can_put : (words : List ℕ) → b.send ≡ Some words → IsOpen book.channels b.chan
    can_put words e =
        let lt : ltb (length h.at.held) h.at.capacity ≡ true = sym (ap (is_open h.at) e) ∙ open_so in
        record { at = h.at; is = h.is; usable = h.usable; room = grind (arith, nat_tests, lt) }

    pub can_take : b.send ≡ None → IsFilled book.channels b.chan
    can_take e =
        let lt : ltb 0 (length h.at.held) ≡ true = sym (ap (is_open h.at) e) ∙ open_so in
        record { at = h.at; is = h.is; usable = h.usable; some = grind (arith, nat_tests, lt) }

    pub sent_so : (i t : ℕ) (words : List ℕ) → b.send ≡ Some words → talks.by_buffer eqb book t i b b.send (Some h.at) ≡ Some (talks.sends eqb book t i b.chan words (held_of (channel book.channels b.chan)) (receivers b.chan book))
    sent_so i t words e =
        ap (λ s. talks.by_buffer eqb book t i b s (Some h.at)) e ∙ ap₂ (λ held os. Some (talks.sends eqb book t i b.chan words held os)) (sym (ap held_of h.is)) (opposites_some book.waiting b words e)

    pub received_so : (i t : ℕ) → b.send ≡ None → talks.by_buffer eqb book t i b b.send (Some h.at) ≡ talks.receives eqb book t i b.chan (is_full (channel book.channels b.chan)) (held_of (channel book.channels b.chan)) (senders b.chan book)
    received_so i t e =
        ap (λ s. talks.by_buffer eqb book t i b s (Some h.at)) e ∙ (λ j. talks.receives eqb book t i b.chan (is_full (sym h.is j)) (held_of (sym h.is j)) (opposites_none book.waiting b e j))

  -- ---- a partner

  module _ (unbuffered : is_buffered (channel book.channels b.chan) ≡ false) where
    all_pairs : (i : ℕ) → pairs_at book.waiting i b (channel book.channels b.chan) ≡ map (λ (o : Offer ℕ). pair i b (Some o)) (opposites book.waiting b)
    all_pairs i = ap (pairs_at book.waiting i b) h.is ∙ rw (unbuffered_flag unbuffered) refl

    pub partner_there : (o : Offer ℕ) × (slice_get (opposites book.waiting b) place ≡ Some o)
    partner_there =
        let list : pairs_at book.waiting 0 b (Some h.at) ≡ map (λ (o : Offer ℕ). pair 0 b (Some o)) (opposites book.waiting b) = rw (unbuffered_flag unbuffered) refl in
        get_there (opposites book.waiting b) place (subst (λ n. place < n) (ap length list ∙ length-map (opposites book.waiting b) (λ (o : Offer ℕ). pair 0 b (Some o))) h.there)

    pub picked_partner : (i t : ℕ) (o : Offer ℕ) → slice_get (opposites book.waiting b) place ≡ Some o → option_and_then (λ (p : Pair ℕ). talks.goes_with eqb book t p.number p.branch p.partner) (slice_get (pairs_at book.waiting i b (channel book.channels b.chan)) place) ≡ Some (talks.meets eqb book t i b.chan b.send o)
    picked_partner i t o e =
        ap (λ (l : List (Pair ℕ)). option_and_then (λ (p : Pair ℕ). talks.goes_with eqb book t p.number p.branch p.partner) (slice_get l place)) (all_pairs i) ∙ ap (option_and_then (λ (p : Pair ℕ). talks.goes_with eqb book t p.number p.branch p.partner)) (get_map (opposites book.waiting b) place ∙ ap (option_map (λ (o : Offer ℕ). pair i b (Some o))) e)
      where
        get_map : (os : List (Offer ℕ)) (k : ℕ) → slice_get (map (λ (o : Offer ℕ). pair i b (Some o)) os) k ≡ option_map (λ (o : Offer ℕ). pair i b (Some o)) (slice_get os k)
        get_map [] k = refl
        get_map (x ∷ os) zero = refl
        get_map (x ∷ os) (suc k) = get_map os k
