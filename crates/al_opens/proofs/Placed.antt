-- Blocks that find room stand one behind the other, in their order.
use Rattle.std.proofs.Common.{◌≡◌, ℕ, zero, suc, ◌+◌, ◌<◌, ◌≤◌, Bool, true, false, if◌then◌else◌, List, [], ◌∷◌, ◌++◌, map, length, length-append, take, Option, Some, None, refl, ap, sym, ◌∙◌, subst, arith}
use Rattle.std.specs.Prelude.{not, nat_le, nat_lt, fold, option_and_then, option_map, slice_get}
use Rattle.std.specs.List.{AllByRecursion, list_any}
use Rattle.std.proofs.lemmas.Bool.{and_parts, le-ltb, lt-ltb, ltb-true}
use Rattle.std.proofs.lemmas.Grind.{div_ceil_times}
use Rattle.std.proofs.lemmas.List.{append-nil, append_assoc, length-map}
use Rattle.std.proofs.lemmas.Option.{same_Some}
use Rattle.al_event.specs.Store.{Live, in_order, least, most_blocks, new_place, overlaps, region_base, spans_of, span_of, with_block, IsPlace}
use Rattle.al_event.proofs.Least.{least_is}
use Rattle.al_region.specs.Region.{IsLaid}
use Rattle.al_region.proofs.Laid.{laid_rises}
use Rattle.al_world.specs.Step.{with_globals}
use Rattle.al_meaning.specs.Places.{behind}
use Rattle.al_fits.proofs.Blocks.{Filled, end_place, filled_more, located}
use Rattle.al_opens.specs.Standing.{block_at}

abbrev pub blocks_from : ℕ → List (List ℕ) → List Live
blocks_from at [] = []
blocks_from at (b ∷ blocks) = block_at at b ∷ blocks_from (behind at (length b)) blocks

-- the place of each
pub block_number : (blocks : List (List ℕ)) (end n : ℕ) → slice_get (blocks_from end blocks) n ≡ option_map (block_at (fold behind end (take n (map length blocks)))) (slice_get blocks n)
block_number [] end n = refl
block_number (b ∷ blocks) end zero = refl
block_number (b ∷ blocks) end (suc n) = block_number blocks (behind end (length b)) n

-- a block that begins behind all others is the last
last : (x : Live) (ys : List Live) → AllByRecursion (λ (y : Live). y.at + length y.bytes ≤ x.at) ys → with_block x ys ≡ ys ++ x ∷ []
last x [] h = refl
last x (y ∷ ys) h =
    ap (λ (b : Bool). if b then x ∷ y ∷ ys else y ∷ in_order (λ (c : Live). c.at) x ys) (le-ltb x.at y.at (omega (arith, h.0)))
    ∙ ap (λ l. y ∷ l) (last x ys h.1)

next_behind : (end size : ℕ) → end + size ≤ behind end size
next_behind end size = let over = div_ceil_times size 8 (omega arith) in omega (arith, over.0)

-- the store with the blocks that were placed behind it
pub record Placed (region end : ℕ) (blocks : List (List ℕ)) (store r : List Live) : Type 0 where
  pub all : r ≡ store ++ blocks_from end blocks
  pub laid : (from : ℕ) → from ≤ end → from ≤ region_base + region → IsLaid from (spans_of (blocks_from end blocks)) (region_base + region)
  pub few : length store ≤ most_blocks → length store + length blocks ≤ most_blocks

module _ (region : ℕ) (b : List ℕ) (store : List Live) (end : ℕ) (F : Filled store end) where
  appended : (at : ℕ) → at ≡ end → with_block (block_at at b) store ≡ store ++ block_at end b ∷ []
  appended at is =
      last (block_at at b) store (subst (λ a. AllByRecursion (λ (y : Live). y.at + length y.bytes ≤ a) store) (sym is) F.before)
      ∙ ap (λ a. store ++ block_at a b ∷ []) is

  one_more : (at : ℕ) → at ≡ end → length (with_block (block_at at b) store) ≡ length store + 1
  one_more at is = ap length (appended at is) ∙ length-append store (block_at end b ∷ [])

  more_placed : (blocks : List (List ℕ)) (r : List Live) (at : ℕ) → at ≡ end → 1 ≤ length b → at + length b ≤ region_base + region → length store < most_blocks
      → Placed region (behind end (length b)) blocks (with_block (block_at at b) store) r → Placed region end (b ∷ blocks) store r
  more_placed blocks r at is some inside fewer P = record {
    all =
        P.all ∙ (ap (λ l. l ++ blocks_from (behind end (length b)) blocks) (appended at is)
        ∙ append_assoc store (block_at end b ∷ []) (blocks_from (behind end (length b)) blocks));
    laid = λ from le within. (le, F.aligned, some, P.laid (end + length b) (next_behind end (length b)) (omega (arith, is, inside)));
    few = λ le. let more = one_more at is in let rest = P.few (omega arith) in omega arith;
  }

pub all_stand : (region : ℕ) (blocks : List (List ℕ)) (store : List Live) (end : ℕ) (r : List Live) → Filled store end
    → AllByRecursion (λ (b : List ℕ). 1 ≤ length b) blocks → with_globals region blocks store ≡ Some r → Placed region end blocks store r
all_stand region [] store end r F some e = record {
  all = sym (same_Some store r e) ∙ sym (append-nil store);
  laid = λ from le within. within;
  few = λ le. omega (arith, le);
}
all_stand region (b ∷ blocks) store end r F some e =
    on (new_place region (spans_of store) (length b)) refl e (λ at G is. all_stand region blocks (with_block (block_at at b) store) (behind end (length b)) r G some.1 is)
  where
    fewer : (at : ℕ) (c : Bool) → (if c then least region (spans_of store) (length b) else None) ≡ Some at → c ≡ true
    fewer at true e = refl
    fewer at false e = absurd (cc)

    on : (o : Option ℕ) → new_place region (spans_of store) (length b) ≡ o → option_and_then (λ at. with_globals region blocks (with_block (block_at at b) store)) o ≡ Some r
        → ((at : ℕ) → Filled (with_block (block_at at b) store) (behind end (length b))
        → with_globals region blocks (with_block (block_at at b) store) ≡ Some r → Placed region (behind end (length b)) blocks (with_block (block_at at b) store) r)
        → Placed region end (b ∷ blocks) store r
    on None p e more = absurd (cc)
    on (Some at) p e more =
        let free : nat_lt (length (spans_of store)) most_blocks ≡ true = fewer at (nat_lt (length (spans_of store)) most_blocks) p in
        let found : least region (spans_of store) (length b) ≡ Some at = sym (ap (λ (c : Bool). if c then least region (spans_of store) (length b) else None) free) ∙ p in
        let is = located region store end (length b) F some.0 at ((least_is region (spans_of store) (length b) at).0 found) in
        let few = ltb-true (length (spans_of store)) most_blocks free in
        more_placed region b store end F blocks r at is.0 some.0 is.1 (omega (arith, few, length-map store span_of))
        (more at (filled_more region store end (length b) F some.0 (block_at at b) is.0 refl) e)

-- ---- room

-- no block ends behind the region
pub ends_within : (region : ℕ) (blocks : List (List ℕ)) (from end n size : ℕ) → IsLaid from (spans_of (blocks_from end blocks)) (region_base + region)
    → slice_get (map length blocks) n ≡ Some size → fold behind end (take n (map length blocks)) + size ≤ region_base + region
ends_within region [] from end n size h e = absurd (cc)
ends_within region (b ∷ blocks) from end zero size h e =
    let same : length b ≡ size = same_Some (length b) size e in
    let rises = laid_rises (spans_of (blocks_from (behind end (length b)) blocks)) (end + length b) (region_base + region) h.3 in
    omega arith
ends_within region (b ∷ blocks) from end (suc n) size h e = ends_within region blocks (end + length b) (behind end (length b)) n size h.3 e

module _ (region : ℕ) (b : List ℕ) (store : List Live) (end : ℕ) (F : Filled store end) (some : 1 ≤ length b) where
  -- the next place is behind all others
  pub next_place : length store < most_blocks → end + length b ≤ region_base + region → new_place region (spans_of store) (length b) ≡ Some end
  next_place few inside =
      ap (λ (c : Bool). if c then least region (spans_of store) (length b) else None) (lt-ltb (length (spans_of store)) most_blocks (omega (arith, few, length-map store span_of)))
      ∙ (least_is region (spans_of store) (length b) end).1 (record { place = place; least = λ k lt other. not_before k lt other })
    where
      place : IsPlace region (spans_of store) (length b) end
      place = end_place region store end (length b) F some inside

      not_before : (k : ℕ) → k < end → IsPlace region (spans_of store) (length b) k → ⊥
      not_before k lt other =
          let clear = and_parts (nat_le (k + length b) (region_base + region)) (not (list_any (overlaps k (length b)) (spans_of store))) other.room in
          clash (list_any (overlaps k (length b)) (spans_of store)) (F.covered k (length b) other.from_base lt other.aligned some) clear.1
        where
          clash : (c : Bool) → c ≡ true → not c ≡ true → ⊥
          clash true h k = cc
          clash false h k = cc

-- where there is room for all, all are placed
pub all_find_room : (region : ℕ) (blocks : List (List ℕ)) (store : List Live) (end : ℕ) → Filled store end → AllByRecursion (λ (b : List ℕ). 1 ≤ length b) blocks
    → length store + length blocks ≤ most_blocks
    → ((n size : ℕ) → slice_get (map length blocks) n ≡ Some size → fold behind end (take n (map length blocks)) + size ≤ region_base + region)
    → (r : List Live) × (with_globals region blocks store ≡ Some r)
all_find_room region [] store end F some few within = (store, refl)
all_find_room region (b ∷ blocks) store end F some few within =
    let next = next_place region b store end F some.0 (omega (arith, few)) (within 0 (length b) refl) in
    let more = one_more region b store end F end refl in
    let rest =
    all_find_room region blocks (with_block (block_at end b) store) (behind end (length b)) (filled_more region store end (length b) F some.0 (block_at end b) refl refl) some.1
    (omega (arith, few, more)) (λ n size e. within (suc n) size e) in
    (rest.0, ap (λ o. option_and_then (λ at. with_globals region blocks (with_block (block_at at b) store)) o) next ∙ rest.1)
