-- What is found to be before an entry is before it by a path, and all that is.
use Rattle.std.proofs.Common.{◌≡◌, ◌≢◌, ℕ, suc, ◌<◌, Bool, true, false, cond, ◌&&◌, ◌||◌, ◌==◌, List, [], ◌∷◌, length, refl, sym, ap, ◌∙◌, subst, arith}
use Rattle.std.specs.Prelude.{nat_lt}
use Rattle.al_seen.specs.declared.seen.Seen.{Seen}
use Rattle.al_race.specs.Order.{leads, has_edge, some_below, is_before, IsBefore, by_edge, by_path}
use Rattle.al_race.proofs.Bools.{equal, not_equal, unequal, same_number, below, is_below, both_true, true_or, or_true, and_true, some_by, some_at}
use Rattle.al_race.proofs.Paths.{at_old}

abbrev from_new : Seen → List Seen → ℕ → Bool
from_new e past i = nat_lt i (length past) && leads e past i

edge_new : (e : Seen) (past : List Seen) (i : ℕ) → has_edge (e ∷ past) i (length past) ≡ from_new e past i
edge_new e past i = ap (λ (b : Bool). cond b (from_new e past i) (has_edge past i (length past))) (same_number (length past))

edge_old : (e : Seen) (past : List Seen) (i j : ℕ) → j ≢ length past → has_edge (e ∷ past) i j ≡ has_edge past i j
edge_old e past i j differ = ap (λ (b : Bool). cond b (from_new e past i) (has_edge past i j)) (not_equal j (length past) differ)

-- an edge leads to a later entry, which is there
edge_goes : (run : List Seen) (i j : ℕ) → has_edge run i j ≡ true → (i < j) × (j < length run)
edge_goes [] i j h = absurd (cc)
edge_goes (e ∷ past) i j h = on (j == length past) refl (edge_goes past i j)
  where
    on : (b : Bool) → (j == length past) ≡ b → (has_edge past i j ≡ true → (i < j) × (j < length past)) → (i < j) × (j < suc (length past))
    on true here later =
        let at = equal j (length past) here in
        let low = is_below i (length past) (both_true (nat_lt i (length past)) (leads e past i) (sym (edge_new e past i) ∙ (ap (has_edge (e ∷ past) i) (sym at) ∙ h))).0 in
        (omega (arith, at, low), omega (arith, at))
    on false other later =
        let goes = later (sym (edge_old e past i j (unequal j (length past) other)) ∙ h) in
        let low = goes.1 in
        (goes.0, omega (arith, low))

-- ---- a path

edge_stays : (e : Seen) (past : List Seen) (i j : ℕ) → has_edge past i j ≡ true → has_edge (e ∷ past) i j ≡ true
edge_stays e past i j h =
    let low = (edge_goes past i j h).1 in
    edge_old e past i j (λ same. let s = same in omega (arith, low, s)) ∙ h

path_stays : (e : Seen) (past : List Seen) (i j : ℕ) → IsBefore past i j → IsBefore (e ∷ past) i j
path_stays e past i j (by_edge a b h) = by_edge a b (edge_stays e past a b h)
path_stays e past i j (by_path a k b p h) = by_path a k b (path_stays e past a k p) (edge_stays e past k b h)

-- the new entry and the others
new_is : (e : Seen) (past : List Seen) (i j : ℕ) → j ≡ length past → is_before (e ∷ past) i j ≡ some_below (length past) (λ k. leads e past k && ((k == i) || is_before past i k))
new_is e past i j at =
    ap (λ (b : Bool). cond b (some_below (length past) (λ k. leads e past k && ((k == i) || is_before past i k))) (is_before past i j)) (ap (λ (n : ℕ). n == length past) at ∙ same_number (length past))

pub to_path : (run : List Seen) (i j : ℕ) → is_before run i j ≡ true → IsBefore run i j
to_path [] i j h = absurd (cc)
to_path (e ∷ past) i j h = on (j == length past) refl (to_path past i)
  where
    by : (c : Bool) → (k : ℕ) → has_edge (e ∷ past) k j ≡ true → ((k == i) || is_before past i k) ≡ true → ((m : ℕ) → is_before past i m ≡ true → IsBefore past i m) → (k == i) ≡ c → IsBefore (e ∷ past) i j
    by true k edge up later same = by_edge i j (subst (λ (m : ℕ). has_edge (e ∷ past) m j ≡ true) (equal k i same) edge)
    by false k edge up later apart =
        by_path i k j (path_stays e past i k (later k (sym (ap (λ (b : Bool). b || is_before past i k) apart) ∙ up))) edge

    on : (b : Bool) → (j == length past) ≡ b → ((m : ℕ) → is_before past i m ≡ true → IsBefore past i m) → IsBefore (e ∷ past) i j
    on true here later =
        let at = equal j (length past) here in
        let one = some_by (length past) (λ k. leads e past k && ((k == i) || is_before past i k)) (sym (new_is e past i j at) ∙ h) in
        let both = both_true (leads e past one.0) ((one.0 == i) || is_before past i one.0) one.2 in
        let edge : has_edge (e ∷ past) one.0 j ≡ true = ap (has_edge (e ∷ past) one.0) at ∙ (edge_new e past one.0 ∙ and_true (nat_lt one.0 (length past)) (leads e past one.0) (below one.0 (length past) one.1) both.0) in
        by (one.0 == i) one.0 edge both.1 later refl
    on false other later = path_stays e past i j (later j (sym (at_old e past i j (unequal j (length past) other)) ∙ h))

-- ---- found

edge_found : (run : List Seen) (i j : ℕ) → has_edge run i j ≡ true → is_before run i j ≡ true
edge_found [] i j h = absurd (cc)
edge_found (e ∷ past) i j h = on (j == length past) refl (edge_found past i j)
  where
    on : (b : Bool) → (j == length past) ≡ b → (has_edge past i j ≡ true → is_before past i j ≡ true) → is_before (e ∷ past) i j ≡ true
    on true here later =
        let at = equal j (length past) here in
        let both = both_true (nat_lt i (length past)) (leads e past i) (sym (edge_new e past i) ∙ (ap (has_edge (e ∷ past) i) (sym at) ∙ h)) in
        new_is e past i j at
        ∙ some_at (length past) (λ k. leads e past k && ((k == i) || is_before past i k)) i (is_below i (length past) both.0) (and_true (leads e past i) ((i == i) || is_before past i i) both.1 (true_or (i == i) (is_before past i i) (same_number i)))
    on false other later =
        let differ = unequal j (length past) other in
        at_old e past i j differ ∙ later (sym (edge_old e past i j differ) ∙ h)

path_found : (run : List Seen) (i k j : ℕ) → is_before run i k ≡ true → has_edge run k j ≡ true → is_before run i j ≡ true
path_found [] i k j p h = absurd (cc)
path_found (e ∷ past) i k j p h = on (j == length past) refl (path_found past i k j)
  where
    on : (b : Bool) → (j == length past) ≡ b → (is_before past i k ≡ true → has_edge past k j ≡ true → is_before past i j ≡ true) → is_before (e ∷ past) i j ≡ true
    on true here later =
        let at = equal j (length past) here in
        let both = both_true (nat_lt k (length past)) (leads e past k) (sym (edge_new e past k) ∙ (ap (has_edge (e ∷ past) k) (sym at) ∙ h)) in
        let low = is_below k (length past) both.0 in
        let was : is_before past i k ≡ true = sym (at_old e past i k (λ same. let s = same in omega (arith, low, s))) ∙ p in
        new_is e past i j at
        ∙ some_at (length past) (λ m. leads e past m && ((m == i) || is_before past i m)) k low (and_true (leads e past k) ((k == i) || is_before past i k) both.1 (or_true (k == i) (is_before past i k) was))
    on false other later =
        let differ = unequal j (length past) other in
        let edge : has_edge past k j ≡ true = sym (edge_old e past k j differ) ∙ h in
        let goes = edge_goes past k j edge in
        let first = goes.0 in
        let last = goes.1 in
        let was : is_before past i k ≡ true = sym (at_old e past i k (λ same. let s = same in omega (arith, first, last, s))) ∙ p in
        at_old e past i j differ ∙ later was edge

pub from_path : (run : List Seen) (i j : ℕ) → IsBefore run i j → is_before run i j ≡ true
from_path run i j (by_edge a b h) = edge_found run a b h
from_path run i j (by_path a k b p h) = path_found run a k b (from_path run a k p) h
