-- Where there is a first world, all blocks at the start lie in the region.
use Rattle.std.proofs.Common.{◌≡◌, ℕ, zero, suc, ◌+◌, ◌%◌, ◌<◌, ◌≤◌, ◌⊎◌, Bool, true, false, ◌||◌, if◌then◌else◌, List, [], ◌∷◌, map, length, take, Option, Some, None, refl, ap, arith, inl, inr}
use Rattle.std.specs.Prelude.{not, nat_lt, nat_le, fold, option_and_then}
use Rattle.std.specs.List.{AllByRecursion, list_any}
use Rattle.std.proofs.lemmas.Grind.{div_ceil_times}
use Rattle.std.proofs.lemmas.Bool.{and_parts, and_from, and_left, or_left, or_right, or_from, le-ltb, cases_order, cases_lt, leb-true, le-leb, lt-ltb}
use Rattle.al_event.specs.declared.act.Block.TheVariants.{Global as GlobalBlock}
use Rattle.al_event.specs.Store.{Live, Span, IsPlace, IsLeast, in_order, least, most_blocks, new_place, overlaps, region_base, span_of, spans_of, with_block}
use Rattle.al_event.proofs.Least.{least_is}
use Rattle.al_world.specs.Step.{with_globals}
use Rattle.al_meaning.specs.Places.{behind}

-- ---- one more block among others

module _ (f : Span → Bool) where
  any_one : (x : Live) (ys : List Live) → f (span_of x) ≡ true → list_any f (spans_of (in_order (λ (c : Live). c.at) x ys)) ≡ true
  any_one x [] h = or_left (f (span_of x)) false h
  any_one x (y ∷ ys) h = on (nat_lt x.at y.at) (any_one x ys h)
    where
      on : (b : Bool) → list_any f (spans_of (in_order (λ (c : Live). c.at) x ys)) ≡ true
          → list_any f (spans_of (if b then x ∷ y ∷ ys else y ∷ in_order (λ (c : Live). c.at) x ys)) ≡ true
      on true more = or_left (f (span_of x)) (list_any f (spans_of (y ∷ ys))) h
      on false more = or_right (f (span_of y)) (list_any f (spans_of (in_order (λ (c : Live). c.at) x ys))) more

  any_other : (x : Live) (ys : List Live) → list_any f (spans_of ys) ≡ true → list_any f (spans_of (in_order (λ (c : Live). c.at) x ys)) ≡ true
  any_other x [] h = absurd (cc)
  any_other x (y ∷ ys) h = on (nat_lt x.at y.at) (rest (f (span_of y)) refl h (any_other x ys))
    where
      rest : (b : Bool) → f (span_of y) ≡ b → (b || list_any f (spans_of ys)) ≡ true
          → (list_any f (spans_of ys) ≡ true → list_any f (spans_of (in_order (λ (c : Live). c.at) x ys)) ≡ true)
          → (f (span_of y) || list_any f (spans_of (in_order (λ (c : Live). c.at) x ys))) ≡ true
      rest true e h more = or_left (f (span_of y)) (list_any f (spans_of (in_order (λ (c : Live). c.at) x ys))) e
      rest false e h more = or_right (f (span_of y)) (list_any f (spans_of (in_order (λ (c : Live). c.at) x ys))) (more h)

      on : (b : Bool) → (f (span_of y) || list_any f (spans_of (in_order (λ (c : Live). c.at) x ys))) ≡ true
          → list_any f (spans_of (if b then x ∷ y ∷ ys else y ∷ in_order (λ (c : Live). c.at) x ys)) ≡ true
      on true more = or_right (f (span_of x)) (list_any f (spans_of (y ∷ ys))) h
      on false more = more

each_in_order : (P : Live → Type 0) (x : Live) (ys : List Live) → P x → AllByRecursion P ys → AllByRecursion P (in_order (λ (c : Live). c.at) x ys)
each_in_order P x [] h k = (h, tt)
each_in_order P x (y ∷ ys) h k = on (nat_lt x.at y.at) (each_in_order P x ys h k.1)
  where
    on : (b : Bool) → AllByRecursion P (in_order (λ (c : Live). c.at) x ys) → AllByRecursion P (if b then x ∷ y ∷ ys else y ∷ in_order (λ (c : Live). c.at) x ys)
    on true more = (h, k)
    on false more = (k.0, more)

-- ---- blocks one after the other

-- all multiples of 8 before the end lie in blocks, and no block goes past it
pub record Filled (store : List Live) (end : ℕ) : Type 0 where
  pub from : region_base ≤ end
  pub aligned : end % 8 ≡ 0
  pub before : AllByRecursion (λ (b : Live). b.at + length b.bytes ≤ end) store
  pub covered : (k n : ℕ) → region_base ≤ k → k < end → k % 8 ≡ 0 → 1 ≤ n → list_any (overlaps k n) (spans_of store) ≡ true

all_clear : (end n : ℕ) (store : List Live) → AllByRecursion (λ (b : Live). b.at + length b.bytes ≤ end) store → list_any (overlaps end n) (spans_of store) ≡ false
all_clear end n [] h = refl
all_clear end n (b ∷ store) h =
    or_from (overlaps end n (span_of b)) (list_any (overlaps end n) (spans_of store))
    (and_left (nat_lt end (b.at + length b.bytes)) (nat_lt b.at (end + n)) (le-ltb end (b.at + length b.bytes) h.0)) (all_clear end n store h.1)

module _ (region : ℕ) (store : List Live) (end n : ℕ) (F : Filled store end) (some : 1 ≤ n) where
  pub end_place : end + n ≤ region_base + region → IsPlace region (spans_of store) n end
  end_place le = record {
    from_base = F.from;
    aligned = F.aligned;
    room = and_from _ _ (le-leb (end + n) (region_base + region) le) (ap not (all_clear end n store F.before));
  }

  pub located : (at : ℕ) → IsLeast region (spans_of store) n at → (at ≡ end) × (at + n ≤ region_base + region)
  located at l =
      let room = and_parts (nat_le (at + n) (region_base + region)) (not (list_any (overlaps at n) (spans_of store))) l.place.room in
      let inside : at + n ≤ region_base + region = leb-true (at + n) (region_base + region) room.0 in
      (on (cases_order at end) room.1 inside, inside)
    where
      on : (at ≡ end) ⊎ ((at < end) ⊎ (end < at)) → not (list_any (overlaps at n) (spans_of store)) ≡ true → at + n ≤ region_base + region → at ≡ end
      on (inl is) clear inside = is
      on (inr (inl lt)) clear inside =
          let hit : list_any (overlaps at n) (spans_of store) ≡ true = F.covered at n l.place.from_base lt l.place.aligned some in
          absurd (clash (list_any (overlaps at n) (spans_of store)) hit clear)
        where
          clash : (b : Bool) → b ≡ true → not b ≡ true → ⊥
          clash true h k = cc
          clash false h k = cc
      on (inr (inr gt)) clear inside = absurd (l.least end gt (end_place (omega arith)))

  next_end : behind end n ≤ end + n + 7
  next_end = let above = (div_ceil_times n 8 (omega arith)).1 in omega arith

  pub filled_more : (b : Live) → b.at ≡ end → length b.bytes ≡ n → Filled (with_block b store) (behind end n)
  filled_more b at size =
      let over = div_ceil_times n 8 (omega arith) in
      record {
        from = let f = F.from in omega arith;
        aligned = let a = F.aligned in omega arith;
        before =
            each_in_order (λ (b : Live). b.at + length b.bytes ≤ behind end n) b store (omega (arith, over.0)) (later store F.before);
        covered = λ k m low lt eights one. on k m (cases_lt k end) low lt eights one;
      }
    where
      later : (xs : List Live) → AllByRecursion (λ (b : Live). b.at + length b.bytes ≤ end) xs → AllByRecursion (λ (b : Live). b.at + length b.bytes ≤ behind end n) xs
      later [] h = tt
      later (x ∷ xs) h = (omega (arith, h.0), later xs h.1)

      on : (k m : ℕ) → (k < end) ⊎ (end ≤ k) → region_base ≤ k → k < behind end n → k % 8 ≡ 0 → 1 ≤ m → list_any (overlaps k m) (spans_of (with_block b store)) ≡ true
      on k m (inl old) low lt eights one = any_other (overlaps k m) b store (F.covered k m low old eights one)
      on k m (inr new) low lt eights one =
          let over = (div_ceil_times n 8 (omega arith)).1 in
          let a = F.aligned in
          let inside : k < end + n = omega arith in
          any_one (overlaps k m) b store (and_from _ _ (lt-ltb k (b.at + length b.bytes) (omega arith)) (lt-ltb b.at (k + m) (omega arith)))

-- the places of blocks that found room
pub all_placed : (region : ℕ) (blocks : List (List ℕ)) (store : List Live) (end : ℕ) (r : List Live) → Filled store end → end ≤ region_base + region + 7
    → AllByRecursion (λ (b : List ℕ). 1 ≤ length b) blocks → with_globals region blocks store ≡ Some r
    → (n : ℕ) → fold behind end (take n (map length blocks)) ≤ region_base + region + 7
all_placed region [] store end r F le some e zero = le
all_placed region [] store end r F le some e (suc n) = le
all_placed region (b ∷ blocks) store end r F le some e zero = le
all_placed region (b ∷ blocks) store end r F le some e (suc n) =
    on (new_place region (spans_of store) (length b)) refl e (λ at G small is. all_placed region blocks _ _ r G small some.1 is n)
  where
    Goal : Type 0
    Goal = fold behind (behind end (length b)) (take n (map length blocks)) ≤ region_base + region + 7

    new : ℕ → Live
    new at = record { at = at; kind = GlobalBlock; bytes = b }

    least_of : (at : ℕ) (c : Bool) → (if c then least region (spans_of store) (length b) else None) ≡ Some at → least region (spans_of store) (length b) ≡ Some at
    least_of at true e = e
    least_of at false e = absurd (cc)

    on : (o : Option ℕ) → new_place region (spans_of store) (length b) ≡ o → option_and_then (λ at. with_globals region blocks (with_block (new at) store)) o ≡ Some r
        → ((at : ℕ) → Filled (with_block (new at) store) (behind end (length b)) → behind end (length b) ≤ region_base + region + 7
        → with_globals region blocks (with_block (new at) store) ≡ Some r → Goal) → Goal
    on None p e more = absurd (cc)
    on (Some at) p e more =
        let l = (least_is region (spans_of store) (length b) at).0 (least_of at (nat_lt (length (spans_of store)) most_blocks) p) in
        let is = located region store end (length b) F some.0 at l in
        let next = next_end region store end (length b) F some.0 in
        more at (filled_more region store end (length b) F some.0 (new at) is.0 refl) (omega (arith, is.0, is.1)) e
