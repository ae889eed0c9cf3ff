-- Joining two seats keeps the rule, and one that has every share is told what the last value is.
use Rattle.std.proofs.Common.{◌≡◌, ℕ, ◌≢◌, ◌==◌, cond, List, [], ◌∷◌, length, set, All, slice_index_or, Option as Maybe, Some, None, sym, refl, ap, ◌∙◌, subst, eq-eqb, ne_eqb, arith, length-set}
use Rattle.std.proofs.lemmas.List.Elements.{All-nil, All-append, All-weaker}
use mathlib.Core.Option.{Option, none, some}
use lib.ListN.{get_elem?}
use base.Stored.{Gv}
use Rattle.atomic_table.specs.Table.{State, Joins, Final, Seen}
use Rattle.atomic_table.proofs.Lists.{set_else}
use Rattle.al_event.specs.declared.entry.Entry.{Entry}
use Rattle.al_event.specs.declared.entry.Loan.{Loan}
use Rattle.store_lock.specs.declared.known.Share.{Share}
use Rattle.store_lock.specs.declared.known.View.{View}
use Rattle.store_lock.specs.Rule.{share, spent, taken_at, IsSeated, Fits, LiesIn, Knows, IsHeld, Rule, CoversAll}
use Rattle.store_lock.specs.Steps.{gathered}
use Rattle.store_lock.specs.Ends.{Ends}
use Rattle.store_lock.proofs.Lists.{after_set, not_the_holder}
use Rattle.store_lock.proofs.Dealing.{MovesApart}

module _ {V F : Type 0} (memo : V → Gv) (entries : V → List Entry) (fixed : V → F) (lent : V → ℕ → Maybe Loan) (origin : V) (seats : ℕ) where
  abbrev St : Type 0
  St = State (Maybe V) View

  abbrev R : St → Type 0
  R = Rule memo entries fixed lent origin seats

  abbrev H : Option ℕ → St → Type 0
  H = IsHeld memo entries fixed lent origin seats

  abbrev K : V → List Entry → Option ℕ → (ℕ → ℕ) → ℕ → View → Type 0
  K = Knows memo entries fixed lent origin seats

  abbrev L : V → List Entry → (ℕ → ℕ) → ℕ → Share → Type 0
  L = LiesIn memo entries fixed lent origin seats

  -- each share that lies in the seat `other` goes to the seat `id`
  abbrev merged : (ℕ → ℕ) → ℕ → ℕ → ℕ → ℕ
  merged seat_of id other n = cond (seat_of n == other) id (seat_of n)

  merged-there : (seat_of : ℕ → ℕ) (id other n : ℕ) → seat_of n ≡ other → merged seat_of id other n ≡ id
  merged-there seat_of id other n there = ap (λ b. cond b id (seat_of n)) (eq-eqb (seat_of n) other there)

  merged-else : (seat_of : ℕ → ℕ) (id other n j : ℕ) → seat_of n ≡ j → j ≢ other → merged seat_of id other n ≡ j
  merged-else seat_of id other n j at apart = ap (λ b. cond b id (seat_of n)) (ne_eqb (seat_of n) other (λ is. apart (sym at ∙ is))) ∙ at

  join_apart : (h : Option ℕ) (seat_of : ℕ → ℕ) (count id other : ℕ) (held : Gv) → IsSeated h seat_of seats count → None ≡ taken_at h seat_of held other
      → MovesApart h seat_of (merged seat_of id other) seats count held
  join_apart none seat_of count id other held seated idle = record { seated = tt; stays = λ j. refl }
  join_apart (some m) seat_of count id other held seated idle =
      let same : merged seat_of id other m ≡ seat_of m = merged-else seat_of id other m (seat_of m) refl (not_the_holder m seat_of held other idle) in
      record { seated = (seated.0, (let inside = seated.1 in omega arith)); stays = λ j. ap (λ (i : ℕ). cond (i == j) (Some held) None) same }

  module _ (s : St) (h : Option ℕ) (r : H h s) (id : ℕ) (v : View) (other : ℕ) (w : View) (v_idle : v.taken ≡ None) (w_idle : w.taken ≡ None)
      (at : get_elem? s.views id ≡ some v) (apart : ¬ (other ≡ id)) (there : get_elem? s.views other ≡ some w) where
    abbrev seats_after : ℕ → ℕ
    seats_after = merged r.seat_of id other

    abbrev both : View
    both = gathered v w

    mine : K r.value r.since h r.seat_of id v
    mine = r.views id v at

    yours : K r.value r.since h r.seat_of other w
    yours = r.views other w there

    moves : MovesApart h r.seat_of seats_after seats (length s.views) (memo r.value)
    moves = join_apart h r.seat_of (length s.views) id other (memo r.value) r.seated (sym w_idle ∙ yours.taken_is)

    stay : (j : ℕ) (ss : List Share) → j ≢ other → All (L r.value r.since r.seat_of j) ss → All (L r.value r.since seats_after j) ss
    stay j ss else lie i d inside =
        let q = lie i d inside in
        record { fits = q.fits; here = merged-else r.seat_of id other (slice_index_or ss i d).number j q.here else; below = q.below }

    come : All (L r.value r.since seats_after id) w.shares
    come i d inside =
        let q = yours.shares i d inside in
        record { fits = q.fits; here = merged-there r.seat_of id other (slice_index_or w.shares i d).number q.here; below = q.below }

    both_know : K r.value r.since h seats_after id both
    both_know = record {
      taken_is = mine.taken_is ∙ sym (moves.stays id);
      longer = mine.longer;
      shares = All-append (L r.value r.since seats_after id) w.shares v.shares come (stay id v.shares (λ is. apart (sym is)) mine.shares);
    }

    spent_knows : K r.value r.since h seats_after other spent
    spent_knows = record { taken_is = sym w_idle ∙ (yours.taken_is ∙ sym (moves.stays other)); longer = (entries r.value, refl); shares = All-nil (L r.value r.since seats_after other) }

    others_know : (j : ℕ) (x : View) → j ≢ id → get_elem? s.views j ≡ some x → j ≢ other → K r.value r.since h seats_after j x
    others_know j x _ at' else = let you = r.views j x at' in record { taken_is = you.taken_is ∙ sym (moves.stays j); longer = you.longer; shares = stay j x.shares else you.shares }

    join_keeps : H h record { words = s.words; homes = s.homes; views = set (set s.views id both) other spent }
    join_keeps = record {
      value = r.value;
      since = r.since;
      seat_of = seats_after;
      word = r.word;
      home = r.home;
      grown = r.grown;
      fixed_is = r.fixed_is;
      workers = r.workers;
      unlent = r.unlent;
      seated = subst (IsSeated h seats_after seats) (sym (length-set (set s.views id both) other spent ∙ length-set s.views id both)) moves.seated;
      views = after_set (K r.value r.since h seats_after) (set s.views id both) other spent spent_knows
          (λ j x else at'. after_set (λ i y. i ≢ other → K r.value r.since h seats_after i y) s.views id both (λ _. both_know) others_know j x at' else);
    }

  pub joins : (id : ℕ) (v : View) (other : ℕ) (w : View) → v.taken ≡ None → w.taken ≡ None → Joins R id v other w (gathered v w) spent
  joins id v other w v_idle w_idle s r at apart there =
      (r.0, join_keeps s r.0 r.1 id v other w v_idle w_idle at apart (sym (set_else s.views id other (gathered v w) apart) ∙ there))

  -- a seat with every share has taken nothing, so nobody holds the turn
  ends_at : (s : St) (h : Option ℕ) (r : H h s) (id : ℕ) (v : View) → v.taken ≡ None → CoversAll seats v.shares → get_elem? s.views id ≡ some v
      → (value : V) × (s.homes ≡ some (Some value) ∷ []) × Ends memo entries fixed lent origin seats value v.shares
  ends_at s none r id v idle all at = (
    r.value,
    r.home,
    record {
      fixed_is = r.fixed_is;
      since = r.since;
      grown = r.grown;
      workers = r.workers;
      unlent = r.unlent;
      each = All-weaker (L r.value r.since r.seat_of id) (Fits memo entries fixed lent origin r.value r.since) (λ x q. q.fits) v.shares (r.views id v at).shares;
    },
  )
  ends_at s (some m) r id v idle all at =
      let me = r.views id v at in
      let found = all m r.seated.0 in
      let d : Share = share 0 (memo origin) [] None in
      let here : r.seat_of m ≡ id = ap r.seat_of (sym (found.2 d)) ∙ (me.shares found.0 d found.1).here in
      absurd (not_the_holder m r.seat_of (memo r.value) id (sym idle ∙ me.taken_is) here)

  pub ends : (ws : List ℕ) (xs : List (Maybe V)) (id : ℕ) (v : View) → v.taken ≡ None → CoversAll seats v.shares → Final (Seen R id v) ws xs
      → (value : V) × (get_elem? xs 0 ≡ some (Some value)) × Ends memo entries fixed lent origin seats value v.shares
  ends ws xs id v idle all last =
      let t = ends_at last.0 last.1.0.0 last.1.0.1 id v idle all last.1.1 in
      (t.0, last.4 0 (Some t.0) (ap (λ hs. get_elem? hs 0) t.1), t.2)
