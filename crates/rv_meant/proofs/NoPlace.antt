-- Blocks of a first world that have no place.
use Rattle.std.proofs.Common.{◌≡◌, ℕ, suc, ◌+◌, ◌<◌, ◌≤◌, Bool, true, false, ◌⊎◌, inl, inr, List, [], ◌∷◌, length, Option, Some, None, option_and_then, refl, ap, subst, arith}
use Rattle.std.specs.Prelude.{◌^◌, if◌then◌else◌, nat_le, nat_lt, not, ◌||◌}
use Rattle.std.proofs.lemmas.Bool.{cases_lt, and_parts, leb-true}
use Rattle.std.proofs.lemmas.Bool.Decides.{nat_tests}
use Rattle.std.proofs.lemmas.List.{length-map}
use Rattle.al_event.specs.declared.act.Block.TheVariants.{Global as GlobalBlock}
use Rattle.al_event.specs.Store.{Live, Span, region_base, most_blocks, IsPlace, new_place, in_order, overlaps, span_of, spans_of, with_block}
use Rattle.al_event.proofs.Least.{least_is, none_is}
use Rattle.al_world.specs.Step.{with_globals}

-- ---- more blocks than live at one time

length-in_order : {X : Type 0} (place : X → ℕ) (x : X) (xs : List X) → length (in_order place x xs) ≡ suc (length xs)
length-in_order place x [] = refl
length-in_order place x (y ∷ ys) = on (nat_lt (place x) (place y)) (length-in_order place x ys) where
  on : (b : Bool) → length (in_order place x ys) ≡ suc (length ys) → length (if b then x ∷ y ∷ ys else y ∷ in_order place x ys) ≡ suc (length (y ∷ ys))
  on true e = refl
  on false e = ap suc e

full : (region : ℕ) (spans : List Span) (n : ℕ) → most_blocks ≤ length spans → new_place region spans n ≡ None
full region spans n le = grind (arith, nat_tests)

abbrev block : (at : ℕ) → List ℕ → Live
block at bytes = record { at = at; kind = GlobalBlock; bytes = bytes }

module _ (region : ℕ) (b : List ℕ) (bs : List (List ℕ)) (store : List Live) where
  -- the other blocks are placed over one that has a place
  abbrev goes_on : ℕ → Option (List Live)
  goes_on at = with_globals region bs (with_block (block at b) store)

  none_goes_on : (o : Option ℕ) → ((at : ℕ) → o ≡ Some at → goes_on at ≡ None) → option_and_then goes_on o ≡ None
  none_goes_on (Some at) h = h at refl
  none_goes_on None h = refl

  one_more : (length store < most_blocks) ⊎ (most_blocks ≤ length store) → length store ≤ most_blocks → most_blocks < length store + length (b ∷ bs)
      → ((s : List Live) → length s ≤ most_blocks → most_blocks < length s + length bs → with_globals region bs s ≡ None) → option_and_then goes_on (new_place region (spans_of store) (length b)) ≡ None
  one_more (inl less) few many rest = none_goes_on (new_place region (spans_of store) (length b)) (λ at e.
      let longer = length-in_order (λ (c : Live). c.at) (block at b) store in
      rest (with_block (block at b) store) (omega (arith, less, longer)) (omega (arith, many, longer)))
  one_more (inr past) few many rest = ap (option_and_then goes_on) (full region (spans_of store) (length b) (omega (arith, past, length-map store span_of)))

pub too_many_have_no_place : (region : ℕ) (blocks : List (List ℕ)) (store : List Live) → length store ≤ most_blocks → most_blocks < length store + length blocks → with_globals region blocks store ≡ None
too_many_have_no_place region [] store few many = absurd (omega (arith, few, many))
too_many_have_no_place region (b ∷ bs) store few many = one_more region b bs store (cases_lt (length store) most_blocks) few many (too_many_have_no_place region bs)

-- ---- two blocks of 256 MiB

-- a block of as many bytes as the greatest region has leaves no room for another
taken : (region at a n : ℕ) (s : Span) → region ≤ 2 ^ 28 → s.at ≡ at → region_base ≤ at → at + s.size ≤ region_base + region → 2 ^ 28 ≤ s.size → 2 ^ 28 ≤ n → ¬ IsPlace region (s ∷ []) n a
taken region at a n s low is from within large big place =
    let parts = and_parts (nat_le (a + n) (region_base + region)) (not (overlaps a n s || false)) place.room in
    let end : a + n ≤ region_base + region = leb-true (a + n) (region_base + region) parts.0 in
    let low_end = place.from_base in
    let over : overlaps a n s ≡ true = grind (arith, nat_tests) in
    let no : not (true || false) ≡ true = subst (λ (b : Bool). not (b || false) ≡ true) over parts.1 in
    absurd (cc)

module _ (region : ℕ) (first second : List ℕ) (low : region ≤ 2 ^ 28) (large : 2 ^ 28 ≤ length first) (large_too : 2 ^ 28 ≤ length second) where
  none_behind : (at : ℕ) → new_place region [] (length first) ≡ Some at → with_globals region (second ∷ []) (block at first ∷ []) ≡ None
  none_behind at e =
      let least = ((least_is region [] (length first) at).0 e).place in
      let within : at + length first ≤ region_base + region = leb-true (at + length first) (region_base + region) (and_parts (nat_le (at + length first) (region_base + region)) true least.room).0 in
      let from = least.from_base in
      ap (option_and_then (goes_on region second [] (block at first ∷ [])))
      ((none_is region (span_of (block at first) ∷ []) (length second)).1 (λ a. taken region at a (length second) (span_of (block at first)) low refl from within large large_too))

  pub two_have_no_place : with_globals region (first ∷ second ∷ []) [] ≡ None
  two_have_no_place = none_goes_on region first (second ∷ []) [] (new_place region [] (length first)) none_behind
