-- Passes, the seats in them, and lists of passes.
use Rattle.std.proofs.Common.{◌≡◌, ℕ, suc, ◌+◌, ◌-◌, ◌<◌, List, [], ◌∷◌, ◌++◌, length, map, All, slice_index_or, Option as Maybe, None, sym, ap, ◌∙◌, subst, arith, length-append}
use Rattle.std.proofs.lemmas.List.{get_or_append_left, get_or_push, get_or-map, length-map}
use Rattle.std.proofs.lemmas.List.Elements.{All-head}
use mathlib.Core.Logic.{dite}
use mathlib.Core.List.{IsPrefix}
use native.Mathlib.Decide.{ℕ_discrete}
use base.Stored.{Gv}
use Rattle.atomic_table.specs.Table.{Me}
use Rattle.atomic_table.specs.declared.badge.Badge.{Badge}
use Rattle.atomic_table.specs.declared.shared.Seat.{Seat}
use Rattle.al_event.specs.declared.entry.Entry.{Entry}
use Rattle.al_event.specs.declared.entry.Loan.{Loan}
use Rattle.store_lock.specs.declared.known.Share.{Share}
use Rattle.store_lock.specs.declared.known.View.{View}
use Rattle.store_lock.specs.declared.pass.Pass.{Pass}
use Rattle.store_lock.specs.declared.lock.StoreLock.{StoreLock}
use Rattle.store_lock.specs.Rule.{share, view, resting, new_shares, Fits, CoversAll}
use Rattle.store_lock.specs.Locks.{lock_id, lock_origin, lock_seats}
use Rattle.store_lock.specs.Ends.{Ends}
use Rattle.store_lock.specs.Alike.{AreAlike}
use Rattle.store_lock.specs.Steps.{Learns, Takes}
use Rattle.store_lock.specs.Passes.{only_share, first_view, pass_number, share_of, own, seen, loan, IsAtRest, IsPassOf, AreAllAtRest, EachAt, IsNew, Finds, Closes}

-- P of each pass and its place, where one more pass comes at the end
pub EachAt-push : (P : ℕ → Pass → Type 0) (ps : List Pass) (p : Pass) (n : ℕ) → length ps ≡ n → EachAt P ps → P n p → EachAt P (ps ++ p ∷ [])
EachAt-push P ps p n long each last k d inside = dite (ℕ_discrete k n)
    (λ is. subst (λ (x : Pass). P k x) (sym (get_or_push ps p d k (long ∙ sym is))) (subst (λ (i : ℕ). P i p) (sym is) last))
    (λ apart. let more = length-append ps (p ∷ []) in let before : k < length ps = omega arith in subst (P k) (sym (get_or_append_left ps (p ∷ []) d k before)) (each k d before))

module _ {V F : Type 0} (memo : V → Gv) (lock : StoreLock V F) where
  -- the share of a pass of the lock
  abbrev pub share_in : Pass → Share
  share_in p = share (pass_number p) (memo (lock_origin lock)) (own p) (loan p)

  pub share_of-share_in : (p : Pass) → IsPassOf memo lock p → share_of p ≡ share_in p
  share_of-share_in p is = ap (λ (vs : List View). only_share (first_view vs).shares) is.knows

  -- the seat that was in a pass at rest
  pub seat_of_pass : {S : Type 0} (p : Pass) (b : Badge View) (me : Me S View) → IsPassOf memo lock p → b ≡ p.known.value → b.views ≡ me.0 ∷ [] → me.1 ≡ [] → me ≡ (resting (share_in p) (seen p), [])
  seat_of_pass p b me is same views none =
      let known : b.views ≡ resting (share_in p) (seen p) ∷ [] = ap (λ (x : Badge View). x.views) same ∙ is.knows in
      let view : me.0 ≡ resting (share_in p) (seen p) = cc in (λ i. (view i, none i))

  -- a pass with a seat that has one share
  pub pass_with_seat : (p : Pass) (k : ℕ) (mine : List Entry) (lends : Maybe Loan) (all : List Entry) → pass_number p ≡ k → p.known.value.table_id ≡ lock_id lock
      → p.known.value.views ≡ resting (share k (memo (lock_origin lock)) mine lends) all ∷ [] → IsPassOf memo lock p × (own p ≡ mine) × (seen p ≡ all) × (loan p ≡ lends)
  pass_with_seat p k mine lends all number table views =
      let own_is : own p ≡ mine = ap (λ (vs : List View). (only_share (first_view vs).shares).own) views in
      let seen_is : seen p ≡ all = ap (λ (vs : List View). (first_view vs).seen) views in
      let loan_is : loan p ≡ lends = ap (λ (vs : List View). (only_share (first_view vs).shares).loan) views in (
        record { lock_is = table; knows = views ∙ (λ i. resting (share (sym number i) (memo (lock_origin lock)) (sym own_is i) (sym loan_is i)) (sym seen_is i) ∷ []) },
        own_is,
        seen_is,
        loan_is,
      )

  pub covers_all : (ps : List Pass) → AreAllAtRest memo lock ps → CoversAll (lock_seats lock) (map share_of ps)
  covers_all ps all m below =
      let found = all.every m below in
      let p : Pass = pass_at ps found.0 found.1 in
      let k : ℕ = found.0 in (
        k,
        subst (λ (n : ℕ). k < n) (sym (length-map ps share_of)) found.1,
        λ d. ap (λ (s : Share). s.number) (get_or-map share_of ps k p d found.1 ∙ share_of-share_in (slice_index_or ps k p) (all.passes k p found.1)) ∙ found.2 p,
      )
    where
      pass_at : (ps : List Pass) (k : ℕ) → k < length ps → Pass
      pass_at [] k inside = absurd (omega arith)
      pass_at (p ∷ ps) k inside = p

pub new_shares-next : (origin : Gv) (n seats : ℕ) → n < seats → new_shares origin n (seats - n) ≡ share n origin [] None ∷ new_shares origin (n + 1) (seats - (n + 1))
new_shares-next origin n seats below =
    let left : seats - n ≡ suc (seats - (n + 1)) = omega arith in
    let next : suc n ≡ n + 1 = omega arith in
    ap (new_shares origin n) left ∙ ap (λ (k : ℕ). share n origin [] None ∷ new_shares origin k (seats - (n + 1))) next

module _ {V F : Type 0} (memo : V → Gv) (entries : V → List Entry) (fixed : V → F) (lent : V → ℕ → Maybe Loan) (lock : StoreLock V F) where
  -- what the value fits of the share of each pass
  fits_pass : (since : List Entry) (value : V) (ps : List Pass) → All (IsPassOf memo lock) ps → All (Fits memo entries fixed lent (lock_origin lock) value since) (map share_of ps)
      → All (λ p. Fits memo entries fixed lent (lock_origin lock) value since (share_in memo lock p)) ps
  fits_pass since value ps passes all k d inside =
      let Q : Share → Type 0 = Fits memo entries fixed lent (lock_origin lock) value since in
      let p : Pass = slice_index_or ps k d in
      let s : Share = share_of p in
      subst Q (get_or-map share_of ps k d s inside ∙ share_of-share_in memo lock p (passes k d inside)) (all k s (subst (λ (n : ℕ). k < n) (sym (length-map ps share_of)) inside))

  pub closes : (ps : List Pass) (value : V) (shares : List Share) → AreAllAtRest memo lock ps → shares ≡ map share_of ps → Ends memo entries fixed lent (lock_origin lock) (lock_seats lock) value shares
      → Closes entries fixed lent lock ps value
  closes ps value shares all is e =
      let each = fits_pass e.since value ps all.passes (subst (All (Fits memo entries fixed lent (lock_origin lock) value e.since)) is e.each) in
      record {
        fixed_is = e.fixed_is;
        since = e.since;
        grown = e.grown;
        workers = e.workers;
        own_are = λ k d inside. (each k d inside).own_is;
        loans_are = λ k d inside. (each k d inside).loan_is;
        unlent = e.unlent;
      }

  -- what a pass finds as it takes the turn
  pub finds : ((x y : V) → memo x ≡ memo y → AreAlike entries fixed lent x y) → (p : Pass) (before after : Me (Maybe V) View) → before ≡ (resting (share_in memo lock p) (seen p), [])
      → (t : Takes memo entries fixed lent before after) → Finds entries fixed lent (lock_origin lock) p t.value
  finds tells p before after is t =
      let sh : Share = share_in memo lock p in
      let Q : Share → Type 0 = Learns memo entries fixed lent t.value in
      let l : Q sh = All-head Q sh [] (subst (λ (m : Me (Maybe V) View). All Q m.0.shares) is t.learns) in
      let like = tells (lock_origin lock) l.origin l.fits.origin_is in
      record {
        fixed_is = l.fixed_is ∙ sym like.fixed_is;
        longer = subst (λ (m : Me (Maybe V) View). IsPrefix m.0.seen (entries t.value)) is t.longer;
        since = l.since;
        grown = l.grown ∙ ap (λ front. front ++ l.since) (sym like.entries_are);
        own_is = l.fits.own_is;
        loan_is = l.fits.loan_is;
      }

-- where the first n passes have their seats, and the seat has the shares of the others
module _ {V F : Type 0} (memo : V → Gv) (entries : V → List Entry) (lock : StoreLock V F) where
  pub record HasDealt {S : Type 0} (n : ℕ) (ps : List Pass) (seat : Seat S View) : Type 0 where
    pub table : seat.table_id ≡ lock_id lock
    pub me : seat.me ≡ (view (new_shares (memo (lock_origin lock)) n (lock_seats lock - n)) (entries (lock_origin lock)) None, [])
    pub count : length ps ≡ n
    pub each : EachAt (IsNew memo entries lock) ps

-- where the passes left are at rest, and the seat has the shares of the others
module _ {V F : Type 0} (memo : V → Gv) (lock : StoreLock V F) where
  pub record HasGathered {S : Type 0} (all left : List Pass) (seat : Seat S View) : Type 0 where
    pub table : seat.table_id ≡ lock_id lock
    pub slots : seat.me.1 ≡ []
    pub idle : seat.me.0.taken ≡ None
    pub passes : All (IsPassOf memo lock) left
    pub rest : All IsAtRest left
    pub done : List Pass
    pub cut : left ++ done ≡ all
    pub shares : seat.me.0.shares ≡ map share_of done
