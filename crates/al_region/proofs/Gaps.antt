-- The least place for a new block lies in the first run that has room for it.
use Rattle.std.proofs.Common.{◌≡◌, ℕ, ◌+◌, ◌%◌, ◌<◌, ◌≤◌, ◌⊎◌, inl, inr, Bool, true, false, cond, leb, nat_le, not, ◌&&◌, List, [], ◌∷◌, Option, Some, None, MatchOption, refl, sym, arith}
use Rattle.std.specs.List.{list_any}
use Rattle.std.proofs.lemmas.Bool.Decides.{nat_tests}
use Rattle.al_event.specs.Store.{Span, region_base, overlaps, least, IsPlace}
use Rattle.al_event.proofs.Least.{least_is, none_is}
use Rattle.al_region.specs.Region.{Area, IsLaid, IsSound}
use Rattle.al_run_tree.specs.Runs.{round_up, first_gap}
use Rattle.al_region.proofs.Laid.{IsClear, laid_rises, clear_before, clear_is, is_clear}

-- n bytes fit at `at`, among blocks between these addresses
pub record Fits (from : ℕ) (bs : List Span) (end n at : ℕ) : Type 0 where
  pub begins : from ≤ at
  pub aligned : at % 8 ≡ 0
  pub ends : at + n ≤ end
  pub clear : IsClear n at bs

pub record FitsLeast (from : ℕ) (bs : List Span) (end n at : ℕ) : Type 0 where
  pub fits : Fits from bs end n at
  pub least : (p : ℕ) → Fits from bs end n p → at ≤ p

abbrev pub FitsNowhere : ℕ → List Span → ℕ → ℕ → Type 0
FitsNowhere from bs end n = (p : ℕ) → Fits from bs end n p → ⊥

-- blocks begin at multiples of 8, so they lie from the next one on
pub laid_rounded : (bs : List Span) (from end : ℕ) → end % 8 ≡ 0 → IsLaid from bs end → IsLaid (round_up from) bs end
laid_rounded [] from end e h = omega (arith, h)
laid_rounded (b ∷ bs) from end e h = (omega (arith, h.0, h.1), h.1, h.2, h.3)

-- past a block that leaves no room before it
later : (b : Span) (bs : List Span) (from end n p : ℕ) → b.at < from + n → Fits from (b ∷ bs) end n p → Fits (round_up (b.at + b.size)) bs end n p
later b bs from end n p full f = on f.clear.0
  where
    on : (p + n ≤ b.at) ⊎ (b.at + b.size ≤ p) → Fits (round_up (b.at + b.size)) bs end n p
    on (inl before) = absurd (omega (arith, f.begins))
    on (inr past) = record { begins = omega (arith, f.aligned); aligned = f.aligned; ends = f.ends; clear = f.clear.1 }

pub gap_least : (bs : List Span) (from end n : ℕ) → from % 8 ≡ 0 → end % 8 ≡ 0 → IsLaid from bs end → MatchOption (first_gap from bs end n) (FitsNowhere from bs end n) (FitsLeast from bs end n)
gap_least [] from end n z e h = on (leb (from + n) end) refl
  where
    on : (t : Bool) → leb (from + n) end ≡ t → MatchOption (cond t (Some from) None) (FitsNowhere from [] end n) (FitsLeast from [] end n)
    on true room = record { fits = record { begins = omega arith; aligned = z; ends = grind (arith, nat_tests); clear = tt }; least = λ p f. f.begins }
    on false room = λ p f. let full : end < from + n = grind (arith, nat_tests) in omega (arith, f.begins, f.ends)
gap_least (b ∷ bs) from end n z e h = on (leb (from + n) b.at) refl (gap_least bs (round_up (b.at + b.size)) end n (omega arith) e (laid_rounded bs (b.at + b.size) end e h.3))
  where
    on : (t : Bool) → leb (from + n) b.at ≡ t → MatchOption (first_gap (round_up (b.at + b.size)) bs end n) (FitsNowhere (round_up (b.at + b.size)) bs end n) (FitsLeast (round_up (b.at + b.size)) bs end n) → MatchOption (cond t (Some from) (first_gap (round_up (b.at + b.size)) bs end n)) (FitsNowhere from (b ∷ bs) end n) (FitsLeast from (b ∷ bs) end n)
    on true room rec =
        let within : from + n ≤ b.at = grind (arith, nat_tests) in
        record {
          fits = record { begins = omega arith; aligned = z; ends = omega (arith, laid_rises bs (b.at + b.size) end h.3); clear = (inl within, clear_before bs (b.at + b.size) end n from h.3 (omega arith)) };
          least = λ p f. f.begins;
        }
    on false room rec = past (first_gap (round_up (b.at + b.size)) bs end n) rec
      where
        full : b.at < from + n
        full = grind (arith, nat_tests)

        past : (o : Option ℕ) → MatchOption o (FitsNowhere (round_up (b.at + b.size)) bs end n) (FitsLeast (round_up (b.at + b.size)) bs end n) → MatchOption o (FitsNowhere from (b ∷ bs) end n) (FitsLeast from (b ∷ bs) end n)
        past None none = λ p f. none p (later b bs from end n p full f)
        past (Some a) found = record {
          fits = record { begins = omega (arith, found.fits.begins, h.0); aligned = found.fits.aligned; ends = found.fits.ends; clear = (inr (omega (arith, found.fits.begins)), found.fits.clear) };
          least = λ p f. found.least p (later b bs from end n p full f);
        }

and_true : (a b : Bool) → (a && b) ≡ true → (a ≡ true) × (b ≡ true)
and_true true b h = (refl, h)
and_true false b h = absurd (cc)

-- in a region
pub place_fits : (r : Area) (n p : ℕ) → IsPlace r.bytes r.blocks n p → Fits region_base r.blocks (region_base + r.bytes) n p
place_fits r n p h =
    let both = and_true (nat_le (p + n) (region_base + r.bytes)) (not (list_any (overlaps p n) r.blocks)) h.room in
    record { begins = h.from_base; aligned = h.aligned; ends = grind (arith, nat_tests, both.0); clear = clear_is r.blocks n p (grind (arith, nat_tests, both.1)) }

fits_place : (r : Area) (n p : ℕ) → Fits region_base r.blocks (region_base + r.bytes) n p → IsPlace r.bytes r.blocks n p
fits_place r n p f = record { from_base = f.begins; aligned = f.aligned; room = grind (arith, nat_tests, f.ends, is_clear r.blocks n p f.clear) }

pub first_gap-least : (r : Area) (n : ℕ) → IsSound r → first_gap region_base r.blocks (region_base + r.bytes) n ≡ least r.bytes r.blocks n
first_gap-least r n s = on (first_gap region_base r.blocks (region_base + r.bytes) n) (gap_least r.blocks region_base (region_base + r.bytes) n refl (omega (arith, s.sized.whole)) s.laid)
  where
    on : (o : Option ℕ) → MatchOption o (FitsNowhere region_base r.blocks (region_base + r.bytes) n) (FitsLeast region_base r.blocks (region_base + r.bytes) n) → o ≡ least r.bytes r.blocks n
    on None none = sym ((none_is r.bytes r.blocks n).1 (λ p h. none p (place_fits r n p h)))
    on (Some a) found = sym ((least_is r.bytes r.blocks n a).1 (record { place = fits_place r n a found.fits; least = λ k lt h. let le : a ≤ k = found.least k (place_fits r n k h) in omega arith }))
