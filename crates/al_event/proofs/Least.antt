-- The place of a new block is the least multiple of 8 at which it fits.
use Rattle.std.proofs.Common.{◌≡◌, ℕ, zero, suc, ◌+◌, ◌*◌, ◌/◌, ◌%◌, ◌<◌, ◌≤◌, Bool, true, false, ◌&&◌, List, Option, Some, None, ◌↔◌, ◌⊎◌, inl, inr, refl, sym, ap, ◌∙◌, subst, arith}
use Rattle.std.proofs.lemmas.Option.{same_Some}
use Rattle.std.proofs.lemmas.Bool.{cases_order, leb-true}
use Rattle.al_event.specs.Store.{Span, region_base, has_room, least_from, least, IsPlace, IsLeast}

true_false : true ≡ false → ⊥
true_false h = cc

and_left : (a b : Bool) → (a && b) ≡ true → a ≡ true
and_left true b h = refl
and_left false b h = h

module _ (region : ℕ) (spans : List Span) (n : ℕ) where
  -- none of the multiples of 8 from at on and below a has room
  record HasNone (at a : ℕ) : Type 0 where
    none : (k : ℕ) → at ≤ k → k < a → k % 8 ≡ 0 → has_room region spans n k ≡ false

  -- the first multiple of 8 from at on that has room is a
  record IsFirst (at a : ℕ) : Type 0 where
    from : at ≤ a
    aligned : a % 8 ≡ 0
    room : has_room region spans n a ≡ true
    first : HasNone at a

  none_before : (at a : ℕ) → at % 8 ≡ 0 → has_room region spans n at ≡ false → HasNone (at + 8) a → HasNone at a
  none_before at a z e h = record { none = λ k le lt m. on k lt m (cases_order at k) le }
    where
      on : (k : ℕ) → k < a → k % 8 ≡ 0 → (at ≡ k) ⊎ ((at < k) ⊎ (k < at)) → at ≤ k → has_room region spans n k ≡ false
      on k lt m (inl is) le = subst (λ k. has_room region spans n k ≡ false) is e
      on k lt m (inr (inl below)) le = h.none k (omega arith) lt m
      on k lt m (inr (inr above)) le = absurd (omega arith)

  first_found : (steps at a : ℕ) → at % 8 ≡ 0 → least_from steps region spans n at ≡ Some a → IsFirst at a
  first_found zero at a z h = absurd (cc)
  first_found (suc k) at a z h = on (has_room region spans n at) refl h (first_found k (at + 8) a (omega arith))
    where
      on : (b : Bool) → has_room region spans n at ≡ b → elim b [ true ↦ Some at | false ↦ least_from k region spans n (at + 8) ] ≡ Some a → (least_from k region spans n (at + 8) ≡ Some a → IsFirst (at + 8) a) → IsFirst at a
      on true e h later =
          let s : at ≡ a = same_Some at a h in
          record { from = omega arith; aligned = subst (λ x. x % 8 ≡ 0) s z; room = subst (λ x. has_room region spans n x ≡ true) s e; first = record { none = λ k le lt m. absurd (omega arith) } }
      on false e h later =
          let r : IsFirst (at + 8) a = later h in
          record { from = omega (arith, r.from); aligned = r.aligned; room = r.room; first = none_before at a z e r.first }

  none_found : (steps at : ℕ) → at % 8 ≡ 0 → least_from steps region spans n at ≡ None → HasNone at (at + 8 * steps)
  none_found zero at z h = record { none = λ k le lt m. absurd (omega arith) }
  none_found (suc k) at z h = on (has_room region spans n at) refl h (none_found k (at + 8) (omega arith))
    where
      on : (b : Bool) → has_room region spans n at ≡ b → ◌≡◌ {A = Option ℕ} (elim b [ true ↦ Some at | false ↦ least_from k region spans n (at + 8) ]) None → (least_from k region spans n (at + 8) ≡ None → HasNone (at + 8) (at + 8 + 8 * k)) → HasNone at (at + 8 * suc k)
      on true e h later = absurd (cc)
      on false e h later = none_before at _ z e (record { none = λ j le lt m. (later h).none j le (omega arith) m })

  is_least : (a : ℕ) → IsFirst region_base a → IsLeast region spans n a
  is_least a f = record {
    place = record { from_base = f.from; aligned = f.aligned; room = f.room };
    least = λ k lt p. true_false (sym p.room ∙ f.first.none k p.from_base lt p.aligned);
  }

  -- a place for n bytes stands before the region's end
  place_within : (a : ℕ) → IsPlace region spans n a → a ≤ region_base + region
  place_within a p = let h : a + n ≤ region_base + region = leb-true _ _ (and_left _ _ p.room) in omega arith

  found_least : (a : ℕ) → least region spans n ≡ Some a → IsLeast region spans n a
  found_least a h = is_least a (first_found (region / 8 + 1) region_base a refl h)

  none_least : least region spans n ≡ None → (a : ℕ) → ¬ IsPlace region spans n a
  none_least h a p =
      let none = none_found (region / 8 + 1) region_base refl h in
      let within = place_within a p in
      true_false (sym p.room ∙ none.none a p.from_base (omega arith) p.aligned)

  least_unique : (a b : ℕ) → IsLeast region spans n a → IsLeast region spans n b → a ≡ b
  least_unique a b x y = on (cases_order a b)
    where
      on : (a ≡ b) ⊎ ((a < b) ⊎ (b < a)) → a ≡ b
      on (inl is) = is
      on (inr (inl lt)) = absurd (y.least a lt x.place)
      on (inr (inr lt)) = absurd (x.least b lt y.place)

  least_found : (a : ℕ) → IsLeast region spans n a → least region spans n ≡ Some a
  least_found a x = on (least region spans n) refl
    where
      on : (o : Option ℕ) → least region spans n ≡ o → o ≡ Some a
      on None h = absurd (none_least h a x.place)
      on (Some b) h = ap Some (least_unique b a (found_least b h) x)

  no_least : ((a : ℕ) → ¬ IsPlace region spans n a) → least region spans n ≡ None
  no_least nowhere = on (least region spans n) refl
    where
      on : (o : Option ℕ) → least region spans n ≡ o → o ≡ None
      on None h = refl
      on (Some b) h = absurd (nowhere b (found_least b h).place)

  pub least_is : (a : ℕ) → (least region spans n ≡ Some a) ↔ IsLeast region spans n a
  least_is a = (found_least a, least_found a)

  pub none_is : (least region spans n ≡ None) ↔ ((a : ℕ) → ¬ IsPlace region spans n a)
  none_is = (none_least, no_least)
