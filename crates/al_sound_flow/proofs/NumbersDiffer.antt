-- Labels and rescues have numbers of their own.
use Rattle.std.proofs.Common.{◌≡◌, ℕ, suc, ◌+◌, ◌<◌, ◌≤◌, List, [], ◌∷◌, ◌++◌, length, sym, arith}
use Rattle.std.specs.Prelude.{All, AllPairs}
use Rattle.std.proofs.lemmas.List.Elements.{All-append, All-cons, All-head, All-nil, All-tail}
use Rattle.std.proofs.lemmas.List.Kept.{AllPairs-cons}
use Rattle.al_flow.specs.declared.mark.Mark.{Mark}
use Rattle.al_flow.specs.declared.mark.Mark.TheVariants as mark
use Rattle.al_sound_flow.specs.Flow.{label_numbers, rescue_numbers}

abbrev Differ : ℕ → ℕ → Type 0
Differ n m = n ≡ m → ⊥

abbrev Between : ℕ → ℕ → ℕ → Type 0
Between from end n = (from ≤ n) × (n < end)

also : (P Q : ℕ → Type 0) → ((n : ℕ) → P n → Q n) → (xs : List ℕ) → All P xs → All Q xs
also P Q f xs h k d lt = f _ (h k d lt)

labels_between : (from : ℕ) (ms : List Mark) → All (Between from (from + length ms)) (label_numbers from ms)
labels_between from [] = All-nil (Between from (from + 0))
labels_between from (mark.Label name ∷ ms) =
    All-cons (Between from (from + suc (length ms))) from (label_numbers (from + 1) ms) (omega arith, omega arith)
    (also (Between (from + 1) (from + 1 + length ms)) (Between from (from + suc (length ms))) (λ n b. let low = b.0 in let high = b.1 in (omega (arith, low), omega (arith, high))) (label_numbers (from + 1) ms) (labels_between (from + 1) ms))
labels_between from (mark.Rescue name ∷ ms) =
    also (Between (from + 1) (from + 1 + length ms)) (Between from (from + suc (length ms))) (λ n b. let low = b.0 in let high = b.1 in (omega (arith, low), omega (arith, high))) (label_numbers (from + 1) ms) (labels_between (from + 1) ms)

rescues_between : (from : ℕ) (ms : List Mark) → All (Between from (from + length ms)) (rescue_numbers from ms)
rescues_between from [] = All-nil (Between from (from + 0))
rescues_between from (mark.Rescue name ∷ ms) =
    All-cons (Between from (from + suc (length ms))) from (rescue_numbers (from + 1) ms) (omega arith, omega arith)
    (also (Between (from + 1) (from + 1 + length ms)) (Between from (from + suc (length ms))) (λ n b. let low = b.0 in let high = b.1 in (omega (arith, low), omega (arith, high))) (rescue_numbers (from + 1) ms) (rescues_between (from + 1) ms))
rescues_between from (mark.Label name ∷ ms) =
    also (Between (from + 1) (from + 1 + length ms)) (Between from (from + suc (length ms))) (λ n b. let low = b.0 in let high = b.1 in (omega (arith, low), omega (arith, high))) (rescue_numbers (from + 1) ms) (rescues_between (from + 1) ms)

all_between : (from : ℕ) (ms : List Mark) → All (Between from (from + length ms)) (label_numbers from ms ++ rescue_numbers from ms)
all_between from ms = All-append (Between from (from + length ms)) (label_numbers from ms) (rescue_numbers from ms) (labels_between from ms) (rescues_between from ms)

pub below_all : (ms : List Mark) → All (λ n. n < length ms) (label_numbers 0 ms ++ rescue_numbers 0 ms)
below_all ms = also (Between 0 (0 + length ms)) (λ n. n < length ms) (λ n b. let high = b.1 in omega (arith, high)) (label_numbers 0 ms ++ rescue_numbers 0 ms) (all_between 0 ms)

-- ---- no two are the same

-- one more that differs from all others, among them
among : (xs ys : List ℕ) (y : ℕ) → AllPairs Differ (xs ++ ys) → All (Differ y) (xs ++ ys) → AllPairs Differ (xs ++ y ∷ ys)
among [] ys y h k = AllPairs-cons Differ y ys k h
among (x ∷ xs) ys y h k =
    let head : All (Differ x) (xs ++ ys) = λ i d lt. h 0 (suc i) d (omega arith) (omega (arith, lt)) in
    let tail : AllPairs Differ (xs ++ ys) = λ i j d lt within. h (suc i) (suc j) d (omega (arith, lt)) (omega (arith, within)) in
    AllPairs-cons Differ x (xs ++ y ∷ ys) (with_one xs head (λ e. All-head (Differ y) x (xs ++ ys) k (sym e))) (among xs ys y tail (All-tail (Differ y) x (xs ++ ys) k))
  where
    with_one : (zs : List ℕ) → All (Differ x) (zs ++ ys) → Differ x y → All (Differ x) (zs ++ y ∷ ys)
    with_one [] a e = All-cons (Differ x) y ys e a
    with_one (z ∷ zs) a e = All-cons (Differ x) z (zs ++ y ∷ ys) (All-head (Differ x) z (zs ++ ys) a) (with_one zs (All-tail (Differ x) z (zs ++ ys) a) e)

later : (from end : ℕ) (xs : List ℕ) → All (Between (from + 1) end) xs → All (Differ from) xs
later from end xs h = also (Between (from + 1) end) (Differ from) (λ n b e. let low = b.0 in omega (arith, low, e)) xs h

pub apart_from : (from : ℕ) (ms : List Mark) → AllPairs Differ (label_numbers from ms ++ rescue_numbers from ms)
apart_from from [] = λ i j d lt within. absurd (omega (arith, within))
apart_from from (mark.Label name ∷ ms) =
    AllPairs-cons Differ from (label_numbers (from + 1) ms ++ rescue_numbers (from + 1) ms)
    (later from (from + 1 + length ms) (label_numbers (from + 1) ms ++ rescue_numbers (from + 1) ms) (all_between (from + 1) ms)) (apart_from (from + 1) ms)
apart_from from (mark.Rescue name ∷ ms) =
    among (label_numbers (from + 1) ms) (rescue_numbers (from + 1) ms) from (apart_from (from + 1) ms)
    (later from (from + 1 + length ms) (label_numbers (from + 1) ms ++ rescue_numbers (from + 1) ms) (all_between (from + 1) ms))
