-- How many pairs there are.
use Rattle.std.proofs.Common.{◌≡◌, ℕ, zero, suc, ◌+◌, ◌-◌, ◌<◌, ◌≤◌, Bool, true, false, cond, ◌==◌, List, [], ◌∷◌, ◌++◌, length, map, take, drop, min, get_or, refl, sym, ap, ap₂, ◌∙◌, subst, arith, length-append, Option, Some, None, slice_get, add-one}
use Rattle.std.proofs.Math.Seq.{drop-cons}
use Rattle.std.proofs.lemmas.List.{length-map}
use Rattle.al_event.specs.declared.act.Branch.{Branch}
use Rattle.al_world.specs.Channels.{Channel, Offer, Book, Pair, pair, pairs_at, pairs_from, opposites, is_open, channel}

-- the number of a branch does not change how many pairs it has
pub count_of : (w : List (Offer ℕ)) (i : ℕ) (b : Branch) (o : Option Channel) → length (pairs_at w i b o) ≡ length (pairs_at w 0 b o)
count_of w i b None = refl
count_of w i b (Some ch) = on (ch.capacity == 0) (is_open ch b.send)
  where
    on : (x y : Bool) → length (cond x (map (λ (o : Offer ℕ). pair i b (Some o)) (opposites w b)) (cond y (pair i b None ∷ []) [])) ≡ length (cond x (map (λ (o : Offer ℕ). pair 0 b (Some o)) (opposites w b)) (cond y (pair 0 b None ∷ []) []))
    on true y = length-map (opposites w b) (λ (o : Offer ℕ). pair i b (Some o)) ∙ sym (length-map (opposites w b) (λ (o : Offer ℕ). pair 0 b (Some o)))
    on false true = refl
    on false false = refl

-- a pair of a list behind another, and in front of another
pub get_behind : {X : Type 0} (xs ys : List X) (i : ℕ) → length xs ≤ i → slice_get (xs ++ ys) i ≡ slice_get ys (i - length xs)
get_behind [] ys i le = ap (slice_get ys) (let e : i ≡ i - 0 = omega arith in e)
get_behind (x ∷ xs) ys zero le = absurd (omega arith)
get_behind (x ∷ xs) ys (suc i) le = get_behind xs ys i (omega arith) ∙ ap (slice_get ys) (let e : i - length xs ≡ suc i - suc (length xs) = omega arith in e)

pub get_before : {X : Type 0} (xs ys : List X) (i : ℕ) → i < length xs → slice_get (xs ++ ys) i ≡ slice_get xs i
get_before [] ys i lt = absurd (omega arith)
get_before (x ∷ xs) ys zero lt = refl
get_before (x ∷ xs) ys (suc i) lt = get_before xs ys i (omega arith)

pub get_take : {X : Type 0} (n : ℕ) (xs : List X) (i : ℕ) → i < n → slice_get (take n xs) i ≡ slice_get xs i
get_take zero xs i lt = absurd (omega arith)
get_take (suc n) [] i lt = refl
get_take (suc n) (x ∷ xs) zero lt = refl
get_take (suc n) (x ∷ xs) (suc i) lt = get_take n xs i (omega arith)

pub length_take : {X : Type 0} (n : ℕ) (xs : List X) → length (take n xs) ≡ min n (length xs)
length_take zero xs = omega arith
length_take (suc n) [] = omega arith
length_take (suc n) (x ∷ xs) = let e = length_take n xs in omega (arith, e)

drop_past : {X : Type 0} (i : ℕ) (xs : List X) → length xs ≤ i → drop i xs ≡ []
drop_past zero [] le = refl
drop_past (suc i) [] le = refl
drop_past zero (x ∷ xs) le = absurd (omega arith)
drop_past (suc i) (x ∷ xs) le = drop_past i xs (omega arith)

drop_at : {X : Type 0} (i : ℕ) (xs : List X) (x : X) → i < length xs → x ≡ get_or xs i x → drop i xs ≡ x ∷ drop (i + 1) xs
drop_at i xs x lt e = drop-cons xs i x lt ∙ ap₂ (λ y k. y ∷ drop k xs) (sym e) (sym (add-one i))

pub get_at : {X : Type 0} (i : ℕ) (xs : List X) (x : X) → i < length xs → x ≡ get_or xs i x → slice_get xs i ≡ Some x
get_at i [] x lt e = absurd (omega arith)
get_at zero (y ∷ ys) x lt e = ap Some (sym e)
get_at (suc i) (y ∷ ys) x lt e = get_at i ys x (omega arith) e

module _ (book : Book ℕ) (bs : List Branch) where
  abbrev all : List (Pair ℕ)
  all = pairs_from book 0 bs

  -- all were counted
  pub count_all : (count i : ℕ) → length bs ≤ i → count ≤ 65536 → min 65536 (count + length (pairs_from book i (drop i bs))) ≡ min 65536 (length (pairs_from book 0 bs)) → count ≡ length (take 65536 (pairs_from book 0 bs))
  count_all count i past most whole =
      let none : drop i bs ≡ [] = drop_past i bs past in
      let end : min 65536 (count + 0) ≡ min 65536 (length (pairs_from book 0 bs)) = subst (λ (l : List Branch). min 65536 (count + length (pairs_from book i l)) ≡ min 65536 (length (pairs_from book 0 bs))) none whole in
      (let e : count ≡ min 65536 (length (pairs_from book 0 bs)) = omega arith in e) ∙ sym (length_take 65536 (pairs_from book 0 bs))

  -- a pick is one of all pairs
  pub pick_within : (pick : ℕ) → pick < length (take 65536 (pairs_from book 0 bs)) → (pick < length (pairs_from book 0 bs)) × (pick < 65536)
  pick_within pick lt = let e = length_take 65536 (pairs_from book 0 bs) in (omega (arith, e, lt), omega (arith, e, lt))

  module _ (pick place number here : ℕ) (b : Branch) (lt : number < length bs) (is : b ≡ get_or bs number b) (count : here ≡ min (place + 1) (length (pairs_at book.waiting 0 b (channel book.channels b.chan)))) (pair : slice_get (pairs_from book number (drop number bs)) place ≡ slice_get (pairs_from book 0 bs) pick) where
    parts : pairs_from book number (drop number bs) ≡ pairs_at book.waiting number b (channel book.channels b.chan) ++ pairs_from book (number + 1) (drop (number + 1) bs)
    parts = ap (pairs_from book number) (drop_at number bs b lt is)

    same_count : length (pairs_at book.waiting number b (channel book.channels b.chan)) ≡ length (pairs_at book.waiting 0 b (channel book.channels b.chan))
    same_count = count_of book.waiting number b (channel book.channels b.chan)

    -- it is one of this branch
    pub pair_here : place < here → pick < 65536 → slice_get (take 65536 (pairs_from book 0 bs)) pick ≡ slice_get (pairs_at book.waiting number b (channel book.channels b.chan)) place
    pair_here before few =
        get_take 65536 (pairs_from book 0 bs) pick few ∙ sym pair ∙ ap (λ l. slice_get l place) parts ∙ get_before (pairs_at book.waiting number b (channel book.channels b.chan)) (pairs_from book (number + 1) (drop (number + 1) bs)) place (omega (arith, same_count))

    -- it is one of a later branch
    pub pair_later : here ≤ place → place < length (pairs_from book number (drop number bs)) → (place - here < length (pairs_from book (number + 1) (drop (number + 1) bs))) × (slice_get (pairs_from book (number + 1) (drop (number + 1) bs)) (place - here) ≡ slice_get (pairs_from book 0 bs) pick)
    pair_later past within =
        let whole : length (pairs_from book number (drop number bs)) ≡ length (pairs_at book.waiting number b (channel book.channels b.chan)) + length (pairs_from book (number + 1) (drop (number + 1) bs)) = ap length parts ∙ length-append (pairs_at book.waiting number b (channel book.channels b.chan)) (pairs_from book (number + 1) (drop (number + 1) bs)) in
        let many : here ≡ length (pairs_at book.waiting number b (channel book.channels b.chan)) = omega (arith, same_count) in (
          omega (arith, whole, many),
          ap (λ n. slice_get (pairs_from book (number + 1) (drop (number + 1) bs)) (place - n)) many ∙ sym (get_behind (pairs_at book.waiting number b (channel book.channels b.chan)) (pairs_from book (number + 1) (drop (number + 1) bs)) place (omega (arith, many))) ∙ ap (λ l. slice_get l place) (sym parts) ∙ pair,
        )
