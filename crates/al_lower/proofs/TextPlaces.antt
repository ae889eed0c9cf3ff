-- The places of strings, one behind the other.
use Rattle.std.proofs.Common.{◌≡◌, ℕ, ◌+◌, ◌*◌, ◌^◌, ◌<◌, ◌≤◌, min, List, [], ◌∷◌, ◌++◌, map, take, length, get_or, refl, sym, ap, ◌∙◌, inl, inr, arith}
use Rattle.std.specs.Prelude.{fold}
use Rattle.std.proofs.lemmas.List.{get_or_append_left, get_or_push, length-append, length-take, take_more, take-take, map-append}
use Rattle.std.proofs.lemmas.List.Sums.{fold-append}
use Rattle.std.proofs.lemmas.Bool.{cases_lt}
use Rattle.std.proofs.lemmas.Grind.{div_ceil_times}
use Rattle.std.specs.Int.{div_ceil}
use Rattle.al_typed.specs.declared.program.Program.{Program}
use Rattle.al_typed.specs.Capped.{capped}
use Rattle.al_meaning.specs.Places.{behind, global_place, text_place}
use Rattle.al_variables.proofs.Placements.{text_size, texts_cut}
use Rattle.al_lower.specs.Texts.{ArePlaces}

-- behind the first so many strings
abbrev pub place_at : Program → ℕ → ℕ
place_at p i = fold behind (global_place p (length p.globals)) (map text_size (take i p.strings))

-- the places that were found, the last of which is the next one
pub record Found (p : Program) (i : ℕ) (places : List ℕ) : Type 0 where
  pub count : length places ≡ i
  pub are : (k : ℕ) → k < i → get_or places k 0 ≡ capped (place_at p k)

pub none_found : (p : Program) → Found p 0 []
none_found p = record { count = refl; are = λ k lt. absurd (omega (arith, lt)) }

-- behind no string yet
pub first_place : (p : Program) (at : ℕ) → at ≡ capped (global_place p (length p.globals)) → at ≡ capped (place_at p 0)
first_place p at e = e

pub one_found : (p : Program) (i at : ℕ) (places new : List ℕ) → Found p i places → at ≡ capped (place_at p i) → new ≡ places ++ at ∷ [] → Found p (i + 1) new
one_found p i at places new f e is = record {
  count = let c = f.count in ap (λ (xs : List ℕ). length xs) is ∙ length-append places (at ∷ []) ∙ ap (λ n. n + 1) c;
  are = λ k lt. ap (λ (xs : List ℕ). get_or xs k 0) is ∙ on k lt;
}
  where
    on : (k : ℕ) → k < i + 1 → get_or (places ++ at ∷ []) k 0 ≡ capped (place_at p k)
    on k lt =
        let c = f.count in
        elim (cases_lt k i) [
          | inl below ↦ get_or_append_left places (at ∷ []) 0 k (omega (arith, below, c)) ∙ f.are k below
          | inr above ↦ let last : i ≡ k = omega (arith, above, lt) in get_or_push places at 0 k (c ∙ last) ∙ e ∙ ap (λ n. capped (place_at p n)) last
        ]

-- behind one string more
pub next_place : (p : Program) (i at size new : ℕ) (text : List ℕ) → i < length p.strings → text ≡ get_or p.strings i text → at ≡ capped (place_at p i)
    → size ≡ capped (length text + 1) → new ≡ capped (behind at size) → new ≡ capped (place_at p (i + 1))
next_place p i at size new text h is a s n = n ∙ ap (λ k. capped (behind k size)) a ∙ ap (λ k. capped (behind (capped (place_at p i)) k)) s ∙ capped_behind (place_at p i) (length text + 1) ∙ sym (ap capped more)
  where
    capped_behind : (x y : ℕ) → capped (behind (capped x) (capped y)) ≡ capped (behind x y)
    capped_behind x y =
        let low : capped y ≤ 8 * div_ceil (capped y) 8 = let h = (div_ceil_times (capped y) 8 (omega arith)).0 in omega (arith, h) in
        let high : y ≤ 8 * div_ceil y 8 = let h = (div_ceil_times y 8 (omega arith)).0 in omega (arith, h) in
        elim (cases_lt y (2 ^ 64)) [
          | inl small ↦ let same : capped y ≡ y = omega (arith, small) in ap (λ n. capped (behind (capped x) n)) same ∙ near x (8 * div_ceil y 8)
          | inr large ↦ omega (arith, large, low, high)
        ]
      where
        near : (x d : ℕ) → capped (capped x + d) ≡ capped (x + d)
        near x d = omega arith

    more : place_at p (i + 1) ≡ behind (place_at p i) (length text + 1)
    more =
        ap (λ ts. fold behind (global_place p (length p.globals)) (map text_size ts)) (take_more p.strings i text h ∙ ap (λ t. take i p.strings ++ t ∷ []) (sym is))
        ∙ ap (fold behind (global_place p (length p.globals))) (map-append text_size (take i p.strings) (text ∷ []))
        ∙ fold-append behind (global_place p (length p.globals)) (map text_size (take i p.strings)) (map text_size (text ∷ []))

-- all were found
pub all_found : (p : Program) (places : List ℕ) → Found p (length p.strings + 1) places → ArePlaces p places
all_found p places f = record { count = f.count; are = on }
  where
    on : (number : ℕ) → get_or places (min number (length p.strings)) 0 ≡ capped (text_place p number)
    on number =
        let k = min number (length p.strings) in
        let lt : k < length p.strings + 1 = omega arith in
        let same : take k (take k p.strings) ≡ take k p.strings = take-take k k p.strings (omega arith) in
        let short : length (take k p.strings) ≤ k = omega (arith, length-take k p.strings) in
        texts_cut p p.strings (take k p.strings) number k k (get_or places k 0) refl refl refl short
        (f.are k lt ∙ ap (λ ts. capped (fold behind (global_place p (length p.globals)) (map text_size ts))) (sym same))

pub ruleset places_found = (none_found, first_place, one_found, next_place, all_found)
