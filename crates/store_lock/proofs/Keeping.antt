-- The grab, the miss and the free keep the rule.
use Rattle.std.proofs.Common.{◌≡◌, ℕ, suc, ◌+◌, ◌%◌, ◌<◌, ◌≢◌, ◌==◌, eqb, List, [], ◌∷◌, ◌++◌, length, drop, get_or, set, Option as Maybe, Some, None, sym, refl, ap, ◌∙◌, arith, append_assoc, append-nil, length-set}
use Rattle.std.proofs.lemmas.List.Elements.{All-head, All-cons, All-nil, All-append, All-weaker, filter-append}
use Rattle.std.proofs.lemmas.List.Prefix.{front_rest}
use mathlib.Core.Logic.{dite}
use mathlib.Core.Option.{Option, none, some}
use native.Mathlib.Decide.{ℕ_discrete}
use lib.ListN.{get_elem?}
use lib.Seq.{set-get_or}
use prog.Atomic.{either}
use base.Stored.{Gv}
use Rattle.atomic_table.specs.Table.{State, Act, step, keeps, takes, gives, stepped, carried_after, Valid, Allows}
use Rattle.atomic_table.proofs.Lists.{set_again, exchanged}
use Rattle.al_event.specs.declared.entry.Entry.{Entry}
use Rattle.al_event.specs.declared.entry.Loan.{Loan}
use Rattle.store_lock.specs.declared.known.Share.{Share}
use Rattle.store_lock.specs.declared.known.View.{View}
use Rattle.store_lock.specs.Alike.{AreAlike}
use Rattle.store_lock.specs.Rule.{entries_by, view, resting, taken_at, LiesIn, Knows, IsHeld, Rule}
use Rattle.store_lock.specs.Steps.{Learns, holding, Takes, GrabsOrMisses, share_after, GivesBack}
use Rattle.store_lock.proofs.Lists.{place_inside, IsPrefix-trans, AreBy, entries_by-own, entries_by-other, after_set, taken_at-holder, taken_at-other}

module _ {V F : Type 0} (memo : V → Gv) (entries : V → List Entry) (fixed : V → F) (lent : V → ℕ → Maybe Loan) (origin : V) (seats : ℕ) where
  abbrev St : Type 0
  St = State (Maybe V) View

  abbrev R : St → Type 0
  R = Rule memo entries fixed lent origin seats

  abbrev H : Option ℕ → St → Type 0
  H = IsHeld memo entries fixed lent origin seats

  abbrev K : V → List Entry → Option ℕ → (ℕ → ℕ) → ℕ → View → Type 0
  K = Knows memo entries fixed lent origin seats

  abbrev L : V → List Entry → (ℕ → ℕ) → ℕ → Share → Type 0
  L = LiesIn memo entries fixed lent origin seats

  -- the seat's view does not change, nor does the word
  miss_keeps : (s : St) → R s → (id : ℕ) (v : View) → get_elem? s.views id ≡ some v → R (stepped s 0 (get_or s.words 0 0) id [] v keeps)
  miss_keeps s r id v at = rw (set-get_or s.words 0 0, set_again s.views id v at) r

  module _ (s : St) (id : ℕ) (sh : Share) (seen : List Entry) (at : get_elem? s.views id ≡ some (resting sh seen)) where
    -- the table after the grab
    abbrev after_grab : ℕ → V → St
    after_grab word value = stepped s 0 word id [] (view (sh ∷ []) (entries value) (Some (memo value))) (takes 0 (Some value))

    grab_keeps : (r : H none s) (old : ℕ) → get_or s.words 0 0 ≡ old → H (some sh.number) (after_grab (suc old) r.value)
    grab_keeps r old hit =
        let n : ℕ = length (entries r.value) in
        let even : get_or s.words 0 0 ≡ n + n = ap (λ ws. get_or ws 0 0) r.word in
        let up : suc old ≡ suc (n + n) = omega arith in
        let me = r.views id (resting sh seen) at in
        let lies : L r.value r.since r.seat_of id sh = All-head (L r.value r.since r.seat_of id) sh [] me.shares in
        let w : View = view (sh ∷ []) (entries r.value) (Some (memo r.value)) in
        let inside : id < length s.views = place_inside s.views id (resting sh seen) at in
        let long : length (set s.views id w) ≡ length s.views = length-set s.views id w in
        let here : r.seat_of sh.number ≡ id = lies.here in
        record {
          value = r.value;
          since = r.since;
          seat_of = r.seat_of;
          word = ap (λ ws. set ws 0 (suc old)) r.word ∙ ap (λ (word : ℕ). word ∷ []) up;
          home = ap (λ hs. set hs 0 none) r.home;
          grown = r.grown;
          fixed_is = r.fixed_is;
          workers = r.workers;
          unlent = r.unlent;
          seated = (lies.below, omega arith);
          views = after_set (K r.value r.since (some sh.number) r.seat_of) s.views id w
              record { taken_is = sym (taken_at-holder sh.number r.seat_of (memo r.value) id here); longer = ([], append-nil (entries r.value)); shares = me.shares }
              (λ j v other there. let you = r.views j v there in record {
                taken_is = you.taken_is ∙ sym (taken_at-other sh.number r.seat_of (memo r.value) j (λ is. other (sym is ∙ here)));
                longer = you.longer;
                shares = you.shares;
              });
        }

    grab_tells : (r : H none s) → Takes memo entries fixed lent (resting sh seen, []) (holding memo entries fixed lent (sh ∷ []) r.value)
    grab_tells r =
        let me = r.views id (resting sh seen) at in
        let lies : L r.value r.since r.seat_of id sh = All-head (L r.value r.since r.seat_of id) sh [] me.shares in
        let Q : Share → Type 0 = Learns memo entries fixed lent r.value in
        record {
          value = r.value;
          me = refl;
          learns = All-cons Q sh [] record { origin = origin; since = r.since; fits = lies.fits; grown = r.grown; fixed_is = r.fixed_is } (All-nil Q);
          longer = me.longer;
        }

    -- what a step that leaves the word at n has to give
    abbrev Goes : ℕ → ℕ → Type 0
    Goes old n = (w : View) × (a : Act (Maybe V)) × Valid s.homes [] a × R (stepped s 0 n id [] w a)
        × GrabsOrMisses memo entries fixed lent (step 1 0 old (suc old) none) (resting sh seen, []) (get_or s.words 0 0) (w, carried_after [] a)

    hit_goes : (h : Option ℕ) → H h s → (old : ℕ) → old % 2 ≡ 0 → get_or s.words 0 0 ≡ old → Goes old (suc old)
    hit_goes (some m) r old even hit =
        let n : ℕ = length (entries r.value) in
        let odd : get_or s.words 0 0 ≡ suc (n + n) = ap (λ ws. get_or ws 0 0) r.word in absurd (omega arith)
    hit_goes none r old even hit = (
      view (sh ∷ []) (entries r.value) (Some (memo r.value)),
      takes 0 (Some r.value),
      ap (λ hs. get_elem? hs 0) r.home,
      (some sh.number, grab_keeps r old hit),
      record { grabs = λ _. grab_tells r; misses = λ not. absurd (not hit) },
    )

    miss_goes : R s → (old : ℕ) → get_or s.words 0 0 ≢ old → Goes old (get_or s.words 0 0)
    miss_goes r old miss = (
      resting sh seen,
      keeps,
      tt,
      miss_keeps s r id (resting sh seen) at,
      record { grabs = λ hit. absurd (miss hit); misses = λ _. refl },
    )

  pub grabs : (id : ℕ) (sh : Share) (seen : List Entry) (old : ℕ) → old % 2 ≡ 0
      → Allows R 1 id (resting sh seen, []) 0 (λ x. either (eqb x old) (suc old) x) (GrabsOrMisses memo entries fixed lent (step 1 0 old (suc old) none) (resting sh seen, []))
  grabs id sh seen old even s r wide at small = exchanged (get_or s.words 0 0) old (suc old) (Goes s id sh seen at old) (λ hit. hit_goes s id sh seen at r.0 r.1 old even hit) (λ miss. miss_goes s id sh seen at r old miss)

  -- the value that comes back follows from one with the history `taken`
  pub record Follows (k : ℕ) (taken : List Entry) (was value : V) (new : List Entry) : Type 0 where
    pub fixed_is : fixed value ≡ fixed was
    pub longer : entries value ≡ taken ++ new
    pub own : AreBy k new
    pub others : (m : ℕ) → m ≢ k → lent value m ≡ lent was m

  -- the worker's own share, and any other, after the free
  own_lies : (was value : V) (since new taken : List Entry) (seat_of : ℕ → ℕ) (id : ℕ) (sh : Share) → L was since seat_of id sh → Follows sh.number taken was value new
      → L value (since ++ new) seat_of id (share_after entries lent taken value sh)
  own_lies was value since new taken seat_of id sh lies f =
      let k : ℕ = sh.number in
      let added : drop (length taken) (entries value) ≡ new = front_rest (entries value) taken new f.longer in
      record {
        fits = record {
          origin_is = lies.fits.origin_is;
          own_is = filter-append (λ (e : Entry). e.worker == k) since new ∙ (ap (λ old. old ++ entries_by k new) lies.fits.own_is ∙ ap (λ more. sh.own ++ more) (entries_by-own k new f.own ∙ sym added));
          loan_is = refl;
        };
        here = lies.here;
        below = lies.below;
      }

  other_lies : (was value : V) (since new taken : List Entry) (seat_of : ℕ → ℕ) (k j : ℕ) (x : Share) → x.number ≢ k → L was since seat_of j x → Follows k taken was value new → L value (since ++ new) seat_of j x
  other_lies was value since new taken seat_of k j x apart lies f =
      let m : ℕ = x.number in
      record {
        fits = record {
          origin_is = lies.fits.origin_is;
          own_is = filter-append (λ (e : Entry). e.worker == m) since new ∙ (ap (λ more. entries_by m since ++ more) (entries_by-other k m new apart f.own) ∙ (append-nil (entries_by m since) ∙ lies.fits.own_is));
          loan_is = f.others m apart ∙ lies.fits.loan_is;
        };
        here = lies.here;
        below = lies.below;
      }

  abbrev after_free : St → ℕ → ℕ → Share → List Entry → V → St
  after_free s stored id sh taken value = stepped s 0 stored id ((0, Some value) ∷ []) (view (share_after entries lent taken value sh ∷ []) (entries value) None) gives

  free_keeps : (s : St) (m : ℕ) (r : H (some m) s) (id : ℕ) (sh : Share) (taken : List Entry) (held : Gv) (value : V) (new : List Entry) (stored : ℕ)
      → stored ≡ length (entries value) + length (entries value) → r.seat_of m ≡ id → get_elem? s.views id ≡ some (view (sh ∷ []) taken (Some held))
      → taken ≡ entries r.value → Follows sh.number taken r.value value new → H none (after_free s stored id sh taken value)
  free_keeps s m r id sh taken held value new stored twice holder at same f =
      let me = r.views id (view (sh ∷ []) taken (Some held)) at in
      let lies : L r.value r.since r.seat_of id sh = All-head (L r.value r.since r.seat_of id) sh [] me.shares in
      let k : ℕ = sh.number in
      let below : k < seats = lies.below in
      let since : List Entry = r.since ++ new in
      let grown : entries value ≡ entries r.value ++ new = f.longer ∙ ap (λ front. front ++ new) same in
      let Mine : Share → Type 0 = L value since r.seat_of id in
      let after : Share = share_after entries lent taken value sh in
      record {
        value = value;
        since = since;
        seat_of = r.seat_of;
        word = ap (λ ws. set ws 0 stored) r.word ∙ ap (λ (word : ℕ). word ∷ []) twice;
        home = ap (λ hs. set hs 0 (some (Some value))) r.home;
        grown = grown ∙ (ap (λ front. front ++ new) r.grown ∙ append_assoc (entries origin) r.since new);
        fixed_is = f.fixed_is ∙ r.fixed_is;
        workers = All-append (λ (e : Entry). e.worker < seats) r.since new r.workers (All-weaker (λ (e : Entry). e.worker ≡ k) (λ (e : Entry). e.worker < seats) (λ e by. omega arith) new f.own);
        unlent = λ j far. f.others j (λ is. omega arith) ∙ r.unlent j far;
        seated = tt;
        views = after_set (K value since none r.seat_of) s.views id (view (after ∷ []) (entries value) None)
            record { taken_is = refl; longer = ([], append-nil (entries value)); shares = All-cons Mine after [] (own_lies r.value value r.since new taken r.seat_of id sh lies f) (All-nil Mine) }
            (λ j v other there. let you = r.views j v there in record {
              taken_is = you.taken_is ∙ taken_at-other m r.seat_of (memo r.value) j (λ is. other (sym is ∙ holder));
              longer = IsPrefix-trans v.seen (entries r.value) (entries value) you.longer (new, sym grown);
              shares = All-weaker (L r.value r.since r.seat_of j) (L value since r.seat_of j)
                  (λ x q. other_lies r.value value r.since new taken r.seat_of k j x (λ is. other (sym q.here ∙ (ap r.seat_of is ∙ lies.here))) q f) v.shares you.shares;
            });
      }

  -- values with one memo agree in all that the rule says
  module _ (tells : (x y : V) → memo x ≡ memo y → AreAlike entries fixed lent x y) where
    free_at : (s : St) (h : Option ℕ) (r : H h s) (id : ℕ) (sh : Share) (was value : V) (new : List Entry) (stored : ℕ)
        → stored ≡ length (entries value) + length (entries value) → get_elem? s.views id ≡ some (view (sh ∷ []) (entries was) (Some (memo was)))
        → Follows sh.number (entries was) was value new → R (after_free s stored id sh (entries was) value)
    free_at s none r id sh was value new stored twice at f =
        let taken : Some (memo was) ≡ None = (r.views id (view (sh ∷ []) (entries was) (Some (memo was))) at).taken_is in absurd (cc)
    free_at s (some m) r id sh was value new stored twice at f =
        let taken : Some (memo was) ≡ taken_at (some m) r.seat_of (memo r.value) id = (r.views id (view (sh ∷ []) (entries was) (Some (memo was))) at).taken_is in
        dite (ℕ_discrete (r.seat_of m) id)
        (λ holder.
        let both : Some (memo was) ≡ Some (memo r.value) = taken ∙ taken_at-holder m r.seat_of (memo r.value) id holder in
        let one : memo was ≡ memo r.value = cc in
        let like = tells was r.value one in
        let g : Follows sh.number (entries was) r.value value new = record { fixed_is = f.fixed_is ∙ like.fixed_is; longer = f.longer; own = f.own; others = λ j apart. f.others j apart ∙ like.lent_is j } in
        (none, free_keeps s m r id sh (entries was) (memo was) value new stored twice holder at like.entries_are g))
        (λ apart. let none_taken : Some (memo was) ≡ None = taken ∙ taken_at-other m r.seat_of (memo r.value) id apart in absurd (cc))

    pub frees : (slots id : ℕ) (sh : Share) (was value : V) (new : List Entry) (stored : ℕ) → stored ≡ length (entries value) + length (entries value)
        → Follows sh.number (entries was) was value new
        → Allows R slots id (view (sh ∷ []) (entries was) (Some (memo was)), (0, Some value) ∷ []) 0 (λ _. stored)
        (λ _. GivesBack entries lent (step slots 0 stored 0 none) (view (sh ∷ []) (entries was) (Some (memo was)), (0, Some value) ∷ []) stored)
    frees slots id sh was value new stored twice f s r wide at small =
        (view (share_after entries lent (entries was) value sh ∷ []) (entries value) None, gives, tt, free_at s r.0 r.1 id sh was value new stored twice at f, refl)
