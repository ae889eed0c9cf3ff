-- Procs by rising numbers: what a search finds, and what a change leaves.
use Rattle.std.proofs.Common.{◌≡◌, ◌≢◌, ℕ, zero, suc, ◌+◌, ◌<◌, ◌≤◌, true, false, ◌==◌, ltb, List, [], ◌∷◌, ◌++◌, length, set, get_or, refl, sym, ap, ◌∙◌, subst, arith, cond, Some, None, slice_get}
use Rattle.std.specs.Prelude.{IsSomeAnd}
use Rattle.std.specs.List.{remove, AllWithin}
use Rattle.std.specs.List.Sorted.{IsNonDecreasingBy}
use Rattle.std.proofs.lemmas.Bool.Decides.{nat_tests}
use Rattle.std.proofs.lemmas.Option.{same_Some}
use Rattle.task_book.specs.declared.proc.Proc.{Proc}
use Rattle.task_book.specs.Procs.{proc_at, IsRising, IsUnder, count_before, of_number, runs}
use Rattle.task_book.proofs.Queueing.{eqb_same, eqb_not}

-- where a search by halves parts the procs
pub parted : (rs : List Proc) (n i : ℕ) → i ≤ length rs → AllWithin (λ r. ltb r.number n ≡ true) rs 0 i → AllWithin (λ r. ltb r.number n ≡ false) rs i (length rs) → i ≡ count_before n rs
parted [] n i le before after = omega arith
parted (r ∷ rs) n zero le before after = grind (arith, nat_tests, after 0 r (omega arith) (omega arith))
parted (r ∷ rs) n (suc i) le before after =
    let rest = parted rs n i (omega arith) (λ k d lo hi. before (suc k) d (omega arith) (omega arith)) (λ k d lo hi. after (suc k) d (omega arith) (omega arith)) in
    grind (arith, nat_tests, before 0 r (omega arith) (omega arith))

pub at_below : (rs : List Proc) (low n : ℕ) → IsRising low rs → n < low → proc_at n rs ≡ None
at_below [] low n h lt = refl
at_below (r ∷ rs) low n h lt = rw (eqb_not r.number n (λ e. absurd (omega (arith, h.0)))) (at_below rs (r.number + 1) n h.1 (omega (arith, h.0)))

pub at_above : (rs : List Proc) (high n : ℕ) → IsUnder high rs → high ≤ n → proc_at n rs ≡ None
at_above [] high n h le = refl
at_above (r ∷ rs) high n h le = rw (eqb_not r.number n (λ e. absurd (omega (arith, h.0)))) (at_above rs high n h.1 le)

pub search_finds : (rs : List Proc) (low n : ℕ) → IsRising low rs → proc_at n rs ≡ of_number n (slice_get rs (count_before n rs))
search_finds [] low n h = refl
search_finds (r ∷ rs) low n h = grind (arith, nat_tests, h.0, search_finds rs (r.number + 1) n h.1, λ (lt : n < r.number + 1). at_below rs (r.number + 1) n h.1 lt)

pub number_from : (rs : List Proc) (low i : ℕ) (r : Proc) → IsRising low rs → slice_get rs i ≡ Some r → low ≤ r.number
number_from [] low i r h e = absurd (cc)
number_from (x ∷ xs) low zero r h e = let same : x ≡ r = same_Some x r e in subst (λ (y : Proc). low ≤ y.number) same h.0
number_from (x ∷ xs) low (suc i) r h e = omega (arith, h.0, number_from xs (x.number + 1) i r h.1 e)

pub at_index : (rs : List Proc) (low i : ℕ) (r : Proc) → IsRising low rs → slice_get rs i ≡ Some r → proc_at r.number rs ≡ Some r
at_index [] low i r h e = absurd (cc)
at_index (x ∷ xs) low zero r h e = let same : x ≡ r = same_Some x r e in rw (same, eqb_same) refl
at_index (x ∷ xs) low (suc i) r h e =
    rw (eqb_not x.number r.number (λ f. absurd (omega (arith, number_from xs (x.number + 1) i r h.1 e)))) (at_index xs (x.number + 1) i r h.1 e)

-- ---- another proc of the same number

pub rising_set : (rs : List Proc) (low i : ℕ) (r s : Proc) → IsRising low rs → slice_get rs i ≡ Some r → s.number ≡ r.number → IsRising low (set rs i s)
rising_set [] low i r s h e n = absurd (cc)
rising_set (x ∷ xs) low zero r s h e n = let same : x ≡ r = same_Some x r e in let f : s.number ≡ x.number = n ∙ ap (λ (y : Proc). y.number) (sym same) in rw f h
rising_set (x ∷ xs) low (suc i) r s h e n = (h.0, rising_set xs (x.number + 1) i r s h.1 e n)

pub under_set : (rs : List Proc) (high i : ℕ) (r s : Proc) → IsUnder high rs → slice_get rs i ≡ Some r → s.number ≡ r.number → IsUnder high (set rs i s)
under_set [] high i r s h e n = absurd (cc)
under_set (x ∷ xs) high zero r s h e n = let same : x ≡ r = same_Some x r e in let f : s.number ≡ x.number = n ∙ ap (λ (y : Proc). y.number) (sym same) in rw f h
under_set (x ∷ xs) high (suc i) r s h e n = (h.0, under_set xs high i r s h.1 e n)

pub at_set_other : (rs : List Proc) (i n : ℕ) (r s : Proc) → slice_get rs i ≡ Some r → s.number ≡ r.number → n ≢ r.number → proc_at n (set rs i s) ≡ proc_at n rs
at_set_other [] i n r s e f ne = absurd (cc)
at_set_other (x ∷ xs) zero n r s e f ne =
    let same : x ≡ r = same_Some x r e in
    rw (eqb_not s.number n (λ g. ne (sym g ∙ f)), same, eqb_not r.number n (λ g. ne (sym g))) refl
at_set_other (x ∷ xs) (suc i) n r s e f ne = ap (λ o. cond (x.number == n) (Some x) o) (at_set_other xs i n r s e f ne)

get-set : {X : Type 0} (xs : List X) (i : ℕ) (x y : X) → slice_get xs i ≡ Some x → slice_get (set xs i y) i ≡ Some y
get-set [] i x y e = absurd (cc)
get-set (z ∷ zs) zero x y e = refl
get-set (z ∷ zs) (suc i) x y e = get-set zs i x y e

pub at_set_same : (rs : List Proc) (low i : ℕ) (r s : Proc) → IsRising low rs → slice_get rs i ≡ Some r → s.number ≡ r.number → proc_at r.number (set rs i s) ≡ Some s
at_set_same rs low i r s h e f = rw (← f) (at_index (set rs i s) low i s (rising_set rs low i r s h e f) (get-set rs i r s e))

-- ---- a new proc

pub rising_push : (rs : List Proc) (low high : ℕ) (r : Proc) → IsRising low rs → IsUnder high rs → low ≤ high → r.number ≡ high → IsRising low (rs ++ r ∷ [])
rising_push [] low high r h u le e = (omega (arith, e), tt)
rising_push (x ∷ xs) low high r h u le e = (h.0, rising_push xs (x.number + 1) high r h.1 u.1 (omega (arith, u.0)) e)

pub under_push : (rs : List Proc) (high : ℕ) (r : Proc) → IsUnder high rs → r.number ≡ high → IsUnder (high + 1) (rs ++ r ∷ [])
under_push [] high r u e = (omega (arith, e), tt)
under_push (x ∷ xs) high r u e = (omega (arith, u.0), under_push xs high r u.1 e)

pub at_push_other : (rs : List Proc) (n : ℕ) (r : Proc) → n ≢ r.number → proc_at n (rs ++ r ∷ []) ≡ proc_at n rs
at_push_other [] n r ne = rw (eqb_not r.number n (λ e. ne (sym e))) refl
at_push_other (x ∷ xs) n r ne = ap (λ o. cond (x.number == n) (Some x) o) (at_push_other xs n r ne)

pub at_push_same : (rs : List Proc) (high : ℕ) (r : Proc) → IsUnder high rs → r.number ≡ high → proc_at high (rs ++ r ∷ []) ≡ Some r
at_push_same [] high r u e = rw (e, eqb_same) refl
at_push_same (x ∷ xs) high r u e = rw (eqb_not x.number high (λ f. absurd (omega (arith, u.0)))) (at_push_same xs high r u.1 e)

-- ---- a proc less

pub rising_from : (rs : List Proc) (low high : ℕ) → low ≤ high → IsRising high rs → IsRising low rs
rising_from [] low high le h = tt
rising_from (x ∷ xs) low high le h = (omega (arith, h.0), h.1)

pub rising_remove : (rs : List Proc) (low i : ℕ) → IsRising low rs → IsRising low (remove rs i)
rising_remove [] low i h = on i
  where
    on : (i : ℕ) → IsRising low (remove [] i)
    on zero = tt
    on (suc i) = tt
rising_remove (x ∷ xs) low zero h = rising_from xs low (x.number + 1) (omega (arith, h.0)) h.1
rising_remove (x ∷ xs) low (suc i) h = (h.0, rising_remove xs (x.number + 1) i h.1)

pub under_remove : (rs : List Proc) (high i : ℕ) → IsUnder high rs → IsUnder high (remove rs i)
under_remove [] high i h = on i
  where
    on : (i : ℕ) → IsUnder high (remove [] i)
    on zero = tt
    on (suc i) = tt
under_remove (x ∷ xs) high zero h = h.1
under_remove (x ∷ xs) high (suc i) h = (h.0, under_remove xs high i h.1)

pub at_remove_other : (rs : List Proc) (i n : ℕ) (r : Proc) → slice_get rs i ≡ Some r → n ≢ r.number → proc_at n (remove rs i) ≡ proc_at n rs
at_remove_other [] i n r e ne = absurd (cc)
at_remove_other (x ∷ xs) zero n r e ne =
    let same : x ≡ r = same_Some x r e in
    rw (same, eqb_not r.number n (λ g. ne (sym g))) refl
at_remove_other (x ∷ xs) (suc i) n r e ne = ap (λ o. cond (x.number == n) (Some x) o) (at_remove_other xs i n r e ne)

pub at_remove_same : (rs : List Proc) (low i : ℕ) (r : Proc) → IsRising low rs → slice_get rs i ≡ Some r → proc_at r.number (remove rs i) ≡ None
at_remove_same [] low i r h e = absurd (cc)
at_remove_same (x ∷ xs) low zero r h e = let same : x ≡ r = same_Some x r e in at_below xs (x.number + 1) r.number h.1 (subst (λ (y : Proc). r.number < y.number + 1) (sym same) (omega arith))
at_remove_same (x ∷ xs) low (suc i) r h e =
    rw (eqb_not x.number r.number (λ f. absurd (omega (arith, number_from xs (x.number + 1) i r h.1 e)))) (at_remove_same xs (x.number + 1) i r h.1 e)

-- ---- searches

number_above : (rs : List Proc) (low j : ℕ) (d : Proc) → IsRising low rs → j < length rs → low ≤ (get_or rs j d).number
number_above [] low j d h lt = absurd (omega arith)
number_above (x ∷ xs) low zero d h lt = h.0
number_above (x ∷ xs) low (suc j) d h lt = omega (arith, h.0, number_above xs (x.number + 1) j d h.1 (omega arith))

pub rising_sorted : (rs : List Proc) (low : ℕ) → IsRising low rs → IsNonDecreasingBy (λ r. r.number) rs
rising_sorted [] low h i j d le lt = absurd (omega arith)
rising_sorted (x ∷ xs) low h zero zero d le lt = omega arith
rising_sorted (x ∷ xs) low h zero (suc j) d le lt = omega (arith, number_above xs (x.number + 1) j d h.1 (omega arith))
rising_sorted (x ∷ xs) low h (suc i) zero d le lt = absurd (omega arith)
rising_sorted (x ∷ xs) low h (suc i) (suc j) d le lt = rising_sorted xs (x.number + 1) h.1 i j d (omega arith) (omega arith)

pub found_at : (rs : List Proc) (n i : ℕ) (r : Proc) → IsRising 0 rs → i ≡ count_before n rs → slice_get rs i ≡ Some r → r.number ≡ n → slice_get rs i ≡ proc_at n rs
found_at rs n i r h at e f =
    e ∙ sym (search_finds rs 0 n h ∙ ap (of_number n) (ap (slice_get rs) (sym at) ∙ e) ∙ (rw (f, eqb_same) refl))

pub missed_at : (rs : List Proc) (n i : ℕ) (r : Proc) → IsRising 0 rs → i ≡ count_before n rs → slice_get rs i ≡ Some r → r.number ≢ n → proc_at n rs ≡ None
missed_at rs n i r h at e ne = search_finds rs 0 n h ∙ ap (of_number n) (ap (slice_get rs) (sym at) ∙ e) ∙ (rw (eqb_not r.number n ne) refl)

pub missed_past : (rs : List Proc) (n i : ℕ) → IsRising 0 rs → i ≡ count_before n rs → slice_get rs i ≡ None → proc_at n rs ≡ None
missed_past rs n i h at e = search_finds rs 0 n h ∙ ap (of_number n) (ap (slice_get rs) (sym at) ∙ e)

pub runs_at : (rs : List Proc) (i : ℕ) (r : Proc) → IsRising 0 rs → slice_get rs i ≡ Some r → runs r ≡ true → IsSomeAnd (proc_at r.number rs) (λ s. runs s ≡ true)
runs_at rs i r rising e h = subst (λ o. IsSomeAnd o (λ s. runs s ≡ true)) (sym (at_index rs 0 i r rising e)) h
