-- On places of a list, beginnings, and the entries of one worker.
use Rattle.std.proofs.Common.{◌≡◌, ℕ, zero, suc, ◌<◌, ◌≢◌, ◌⊎◌, cond, List, [], ◌∷◌, ◌++◌, length, set, All, None, Some, sym, refl, ap, ◌∙◌, subst, inl, inr, ⊎_elim, arith, append_assoc, eq-eqb, ne_eqb}
use Rattle.std.proofs.lemmas.List.Elements.{All-head, All-tail}
use mathlib.Core.Option.{some, some-injective, some-ne-none}
use mathlib.Core.List.{IsPrefix}
use lib.ListN.{get_elem?}
use base.Stored.{Gv}
use Rattle.atomic_table.proofs.Lists.{at_set}
use Rattle.al_event.specs.declared.entry.Entry.{Entry}
use Rattle.store_lock.specs.declared.known.View.{View}
use Rattle.store_lock.specs.Rule.{entries_by, taken_at}

module _ {X : Type 0} where
  -- a place at which something stands is one of the list's
  pub place_inside : (xs : List X) (j : ℕ) (x : X) → get_elem? xs j ≡ some x → j < length xs
  place_inside [] j x at = absurd (some-ne-none x (sym at))
  place_inside (y ∷ ys) zero x at = omega arith
  place_inside (y ∷ ys) (suc j) x at = omega (arith, place_inside ys j x at)

  -- what stands in a list with one element more stood there before, or is that element and stands last
  pub place_in_push : (xs : List X) (y x : X) (j : ℕ) → get_elem? (xs ++ y ∷ []) j ≡ some x → (get_elem? xs j ≡ some x) ⊎ ((length xs ≡ j) × (y ≡ x))
  place_in_push [] y x zero at = inr (refl, some-injective y x at)
  place_in_push [] y x (suc j) at = absurd (some-ne-none x (sym at))
  place_in_push (z ∷ zs) y x zero at = inl at
  place_in_push (z ∷ zs) y x (suc j) at = ⊎_elim inl (λ t. inr (ap suc t.0, t.1)) (place_in_push zs y x j at)

  pub IsPrefix-trans : (xs ys zs : List X) → IsPrefix xs ys → IsPrefix ys zs → IsPrefix xs zs
  IsPrefix-trans xs ys zs p q = (p.0 ++ q.0, sym (append_assoc xs p.0 q.0) ∙ (ap (λ front. front ++ q.0) p.1 ∙ q.1))

-- each of the entries is the worker k's
abbrev pub AreBy : ℕ → List Entry → Type 0
AreBy k es = All (λ (e : Entry). e.worker ≡ k) es

pub entries_by-own : (k : ℕ) (es : List Entry) → AreBy k es → entries_by k es ≡ es
entries_by-own k [] by = refl
entries_by-own k (e ∷ es) by =
    let P : Entry → Type 0 = λ x. x.worker ≡ k in
    ap (λ b. cond b (e ∷ entries_by k es) (entries_by k es)) (eq-eqb e.worker k (All-head P e es by)) ∙ ap (λ rest. e ∷ rest) (entries_by-own k es (All-tail P e es by))

pub entries_by-other : (k m : ℕ) (es : List Entry) → m ≢ k → AreBy k es → entries_by m es ≡ []
entries_by-other k m [] apart by = refl
entries_by-other k m (e ∷ es) apart by =
    let P : Entry → Type 0 = λ x. x.worker ≡ k in
    let other : e.worker ≢ m = λ is. apart (sym is ∙ All-head P e es by) in
    ap (λ b. cond b (e ∷ entries_by m es) (entries_by m es)) (ne_eqb e.worker m other) ∙ entries_by-other k m es apart (All-tail P e es by)

-- a fact of each seat and its view, after one seat's view has changed
pub after_set : (K : ℕ → View → Type 0) (vs : List View) (id : ℕ) (w : View) → K id w → ((j : ℕ) (v : View) → j ≢ id → get_elem? vs j ≡ some v → K j v)
    → (j : ℕ) (v : View) → get_elem? (set vs id w) j ≡ some v → K j v
after_set K vs id w here others j v at = ⊎_elim
    (λ (t : (j ≡ id) × (w ≡ v)). subst (K j) t.1 (subst (λ (i : ℕ). K i w) (sym t.0) here))
    (λ (t : (j ≢ id) × (get_elem? vs j ≡ some v)). others j v t.0 t.1)
    (at_set vs id j w v at)

-- the holder's seat has the value, and the others have none
pub taken_at-holder : (m : ℕ) (seat_of : ℕ → ℕ) (memo : Gv) (j : ℕ) → seat_of m ≡ j → taken_at (some m) seat_of memo j ≡ Some memo
taken_at-holder m seat_of memo j here = ap (λ b. cond b (Some memo) None) (eq-eqb (seat_of m) j here)

pub taken_at-other : (m : ℕ) (seat_of : ℕ → ℕ) (memo : Gv) (j : ℕ) → seat_of m ≢ j → taken_at (some m) seat_of memo j ≡ None
taken_at-other m seat_of memo j apart = ap (λ b. cond b (Some memo) None) (ne_eqb (seat_of m) j apart)

-- a seat that has taken nothing is not the holder's
pub not_the_holder : (m : ℕ) (seat_of : ℕ → ℕ) (memo : Gv) (j : ℕ) → None ≡ taken_at (some m) seat_of memo j → seat_of m ≢ j
not_the_holder m seat_of memo j none here = let both : None ≡ Some memo = none ∙ taken_at-holder m seat_of memo j here in absurd (cc)
