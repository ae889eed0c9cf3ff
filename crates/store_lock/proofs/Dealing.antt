-- A new table meets the rule, and splitting off a seat keeps it.
use Rattle.std.proofs.Common.{◌≡◌, ℕ, zero, suc, ◌+◌, ◌<◌, ◌≤◌, ◌≢◌, ◌==◌, cond, List, [], ◌∷◌, ◌++◌, length, set, All, slice_index_or, Option as Maybe, Some, None, sym, refl, ap, ◌∙◌, subst, ⊎_elim, arith, append-nil, length-append, length-set, eq-eqb, ne_eqb}
use Rattle.std.proofs.lemmas.List.Elements.{All-head, All-tail, All-cons, All-nil, All-weaker}
use mathlib.Core.Option.{Option, none, some, some-injective, some-ne-none}
use lib.ListN.{get_elem?}
use base.Stored.{Gv}
use Rattle.atomic_table.specs.Table.{State, opening, Splits}
use Rattle.al_event.specs.declared.entry.Entry.{Entry}
use Rattle.al_event.specs.declared.entry.Loan.{Loan}
use Rattle.store_lock.specs.declared.known.Share.{Share}
use Rattle.store_lock.specs.declared.known.View.{View}
use Rattle.store_lock.specs.Rule.{share, view, new_shares, opening_view, taken_at, IsSeated, LiesIn, Knows, IsHeld, Rule}
use Rattle.store_lock.proofs.Lists.{place_in_push, after_set, taken_at-other, not_the_holder}

-- the shares are of numbers above k
abbrev pub AreAbove : ℕ → List Share → Type 0
AreAbove k ss = All (λ (s : Share). k < s.number) ss

pub new_shares-AreAbove : (origin : Gv) (m k n : ℕ) → m < k → AreAbove m (new_shares origin k n)
new_shares-AreAbove origin m k zero l = All-nil (λ (s : Share). m < s.number)
new_shares-AreAbove origin m k (suc n) l = All-cons (λ (s : Share). m < s.number) (share k origin [] None) (new_shares origin (suc k) n) l (new_shares-AreAbove origin m (suc k) n (omega arith))

-- where the seats of the workers change: the holder is still in a seat of the table, and the same seat has taken the value
pub record MovesApart (h : Option ℕ) (old new : ℕ → ℕ) (seats count : ℕ) (memo : Gv) : Type 0 where
  pub seated : IsSeated h new seats count
  pub stays : (j : ℕ) → taken_at h new memo j ≡ taken_at h old memo j

module _ {V F : Type 0} (memo : V → Gv) (entries : V → List Entry) (fixed : V → F) (lent : V → ℕ → Maybe Loan) (origin : V) (seats : ℕ) where
  abbrev St : Type 0
  St = State (Maybe V) View

  abbrev R : St → Type 0
  R = Rule memo entries fixed lent origin seats

  abbrev H : Option ℕ → St → Type 0
  H = IsHeld memo entries fixed lent origin seats

  abbrev K : V → List Entry → Option ℕ → (ℕ → ℕ) → ℕ → View → Type 0
  K = Knows memo entries fixed lent origin seats

  abbrev L : V → List Entry → (ℕ → ℕ) → ℕ → Share → Type 0
  L = LiesIn memo entries fixed lent origin seats

  -- at the start the one seat has every share
  all_in_first : ((m : ℕ) → lent origin m ≡ None) → (k n : ℕ) → k + n ≤ seats → All (L origin [] (λ _. 0) 0) (new_shares (memo origin) k n)
  all_in_first unlent k zero most = All-nil (L origin [] (λ _. 0) 0)
  all_in_first unlent k (suc n) most = All-cons (L origin [] (λ _. 0) 0) (share k (memo origin) [] None) (new_shares (memo origin) (suc k) n)
      record { fits = record { origin_is = refl; own_is = refl; loan_is = unlent k }; here = refl; below = omega arith }
      (all_in_first unlent (suc k) n (omega arith))

  first_knows : ((m : ℕ) → lent origin m ≡ None) → (j : ℕ) (v : View) → get_elem? (opening_view (memo origin) (entries origin) seats ∷ []) j ≡ some v → K origin [] none (λ _. 0) j v
  first_knows unlent zero v at = subst (K origin [] none (λ _. 0) 0) (some-injective _ _ at) record { taken_is = refl; longer = ([], append-nil (entries origin)); shares = all_in_first unlent 0 seats (omega arith) }
  first_knows unlent (suc j) v at = absurd (some-ne-none v (sym at))

  pub opens : (word : ℕ) → word ≡ length (entries origin) + length (entries origin) → ((m : ℕ) → lent origin m ≡ None)
      → R (opening (word ∷ []) (Some origin ∷ []) (opening_view (memo origin) (entries origin) seats))
  opens word twice unlent = (
    none,
    record {
      value = origin;
      since = [];
      seat_of = λ _. 0;
      word = ap (λ (n : ℕ). n ∷ []) twice;
      home = refl;
      grown = sym (append-nil (entries origin));
      fixed_is = refl;
      workers = All-nil (λ (e : Entry). e.worker < seats);
      unlent = λ m _. unlent m;
      seated = tt;
      views = first_knows unlent;
    },
  )

  -- the share number k goes to the new seat `count`, and the others stay
  abbrev moved : (ℕ → ℕ) → ℕ → ℕ → ℕ → ℕ
  moved seat_of k count n = cond (n == k) count (seat_of n)

  moved-same : (seat_of : ℕ → ℕ) (k count n : ℕ) → n ≡ k → moved seat_of k count n ≡ count
  moved-same seat_of k count n is = ap (λ b. cond b count (seat_of n)) (eq-eqb n k is)

  moved-other : (seat_of : ℕ → ℕ) (k count n : ℕ) → n ≢ k → moved seat_of k count n ≡ seat_of n
  moved-other seat_of k count n apart = ap (λ b. cond b count (seat_of n)) (ne_eqb n k apart)

  split_apart : (h : Option ℕ) (seat_of : ℕ → ℕ) (k count id : ℕ) (held : Gv) → IsSeated h seat_of seats count → None ≡ taken_at h seat_of held id → seat_of k ≡ id
      → MovesApart h seat_of (moved seat_of k count) seats (suc count) held
  split_apart none seat_of k count id held seated idle here = record { seated = tt; stays = λ j. refl }
  split_apart (some m) seat_of k count id held seated idle here =
      let same = moved-other seat_of k count m (λ is. not_the_holder m seat_of held id idle (ap seat_of is ∙ here)) in
      record { seated = (seated.0, (let inside = seated.1 in omega arith)); stays = λ j. ap (λ (i : ℕ). cond (i == j) (Some held) None) same }

  new_seat_idle : (h : Option ℕ) (seat_of : ℕ → ℕ) (count : ℕ) (held : Gv) → IsSeated h seat_of seats count → taken_at h seat_of held count ≡ None
  new_seat_idle none seat_of count held seated = refl
  new_seat_idle (some m) seat_of count held seated = taken_at-other m seat_of held count (λ is. let inside = seated.1 in omega arith)

  -- shares with other numbers stay where they are
  others_stay : (value : V) (since : List Entry) (seat_of : ℕ → ℕ) (k count j : ℕ) (ss : List Share) → All (λ (x : Share). x.number ≢ k) ss → All (L value since seat_of j) ss → All (L value since (moved seat_of k count) j) ss
  others_stay value since seat_of k count j ss apart lie i d inside =
      let q = lie i d inside in
      record { fits = q.fits; here = moved-other seat_of k count (slice_index_or ss i d).number (apart i d inside) ∙ q.here; below = q.below }

  module _ (s : St) (h : Option ℕ) (r : H h s) (id : ℕ) (sh : Share) (others : List Share) (seen : List Entry) (above : AreAbove sh.number others)
      (at : get_elem? s.views id ≡ some (view (sh ∷ others) seen None)) where
    abbrev count : ℕ
    count = length s.views

    abbrev left : View
    left = view others seen None

    abbrev right : View
    right = view (sh ∷ []) seen None

    abbrev seats_after : ℕ → ℕ
    seats_after = moved r.seat_of sh.number count

    me_knows : K r.value r.since h r.seat_of id (view (sh ∷ others) seen None)
    me_knows = r.views id (view (sh ∷ others) seen None) at

    lies_here : L r.value r.since r.seat_of id sh
    lies_here = All-head (L r.value r.since r.seat_of id) sh others me_knows.shares

    apart : MovesApart h r.seat_of seats_after seats (suc count) (memo r.value)
    apart = split_apart h r.seat_of sh.number count id (memo r.value) r.seated me_knows.taken_is lies_here.here

    left_knows : K r.value r.since h seats_after id left
    left_knows = record {
      taken_is = me_knows.taken_is ∙ sym (apart.stays id);
      longer = me_knows.longer;
      shares = others_stay r.value r.since r.seat_of sh.number count id others
          (All-weaker (λ (x : Share). sh.number < x.number) (λ (x : Share). x.number ≢ sh.number) (λ x l is. omega arith) others above)
          (All-tail (L r.value r.since r.seat_of id) sh others me_knows.shares);
    }

    right_knows : K r.value r.since h seats_after count right
    right_knows =
        let Q : Share → Type 0 = L r.value r.since seats_after count in
        record {
          taken_is = sym (apart.stays count ∙ new_seat_idle h r.seat_of count (memo r.value) r.seated);
          longer = me_knows.longer;
          shares = All-cons Q sh [] record { fits = lies_here.fits; here = moved-same r.seat_of sh.number count sh.number refl; below = lies_here.below } (All-nil Q);
        }

    other_knows : (j : ℕ) (v : View) → j ≢ id → get_elem? s.views j ≡ some v → K r.value r.since h seats_after j v
    other_knows j v other there = let you = r.views j v there in record {
      taken_is = you.taken_is ∙ sym (apart.stays j);
      longer = you.longer;
      shares = others_stay r.value r.since r.seat_of sh.number count j v.shares
          (All-weaker (L r.value r.since r.seat_of j) (λ (x : Share). x.number ≢ sh.number) (λ x q is. other (sym q.here ∙ (ap r.seat_of is ∙ lies_here.here))) v.shares you.shares)
          you.shares;
    }

    split_keeps : H h record { words = s.words; homes = s.homes; views = set s.views id left ++ right ∷ [] }
    split_keeps =
        let kept : List View = set s.views id left in
        let long : length kept ≡ count = length-set s.views id left in
        let more : suc count ≡ length (kept ++ right ∷ []) = omega (arith, length-append kept (right ∷ [])) in
        record {
          value = r.value;
          since = r.since;
          seat_of = seats_after;
          word = r.word;
          home = r.home;
          grown = r.grown;
          fixed_is = r.fixed_is;
          workers = r.workers;
          unlent = r.unlent;
          seated = subst (IsSeated h seats_after seats) more apart.seated;
          views = λ j v there. ⊎_elim
              (λ (t : get_elem? kept j ≡ some v). after_set (K r.value r.since h seats_after) s.views id left left_knows other_knows j v t)
              (λ (t : (length kept ≡ j) × (right ≡ v)). subst (K r.value r.since h seats_after j) t.1 (subst (λ (i : ℕ). K r.value r.since h seats_after i right) (sym long ∙ t.0) right_knows))
              (place_in_push kept right v j there);
        }

  pub splits : (id : ℕ) (sh : Share) (others : List Share) (seen : List Entry) → AreAbove sh.number others
      → Splits R id (view (sh ∷ others) seen None) (view others seen None) (view (sh ∷ []) seen None)
  splits id sh others seen above s r at = (r.0, split_keeps s r.0 r.1 id sh others seen above at)
