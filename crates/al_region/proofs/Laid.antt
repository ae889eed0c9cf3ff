-- Blocks that lie one after another: their order, and what a new block and a removal make of them.
use Rattle.std.proofs.Common.{◌≡◌, ℕ, zero, suc, ◌+◌, ◌%◌, ◌<◌, ◌≤◌, ◌⊎◌, inl, inr, Bool, true, false, cond, ◌||◌, not, ltb, List, [], ◌∷◌, length, get_or, filter, refl, arith}
use Rattle.std.proofs.lemmas.Bool.{cases_lt}
use Rattle.std.proofs.lemmas.Bool.Decides.{nat_tests}
use Rattle.std.specs.List.{list_any}
use Rattle.std.specs.List.Sorted.{IsNonDecreasingBy}
use Rattle.al_event.specs.Store.{Span, begins_at, with_span, overlaps}
use Rattle.al_event.specs.declared.act.Block.{Block}
use Rattle.al_region.specs.Region.{IsLaid}

-- the addresses rise
pub laid_rises : (bs : List Span) (from end : ℕ) → IsLaid from bs end → from ≤ end
laid_rises [] from end h = h
laid_rises (b ∷ bs) from end h = omega (arith, laid_rises bs (b.at + b.size) end h.3, h.0)

-- they may begin at an earlier address
pub laid_from : (bs : List Span) (from to end : ℕ) → from ≤ to → IsLaid to bs end → IsLaid from bs end
laid_from [] from to end le h = omega (arith, h)
laid_from (b ∷ bs) from to end le h = (omega (arith, h.0), h.1, h.2, h.3)

-- no block begins before the first address
pub laid_at : (bs : List Span) (from end k : ℕ) (d : Span) → IsLaid from bs end → k < length bs → from ≤ (get_or bs k d).at
laid_at [] from end k d h lt = absurd (omega arith)
laid_at (b ∷ bs) from end zero d h lt = h.0
laid_at (b ∷ bs) from end (suc k) d h lt = omega (arith, laid_at bs (b.at + b.size) end k d h.3 (omega arith), h.0)

-- each block is within the addresses
pub laid_within : (bs : List Span) (from end k : ℕ) (d : Span) → IsLaid from bs end → k < length bs → (get_or bs k d).at + (get_or bs k d).size ≤ end
laid_within [] from end k d h lt = absurd (omega arith)
laid_within (b ∷ bs) from end zero d h lt = laid_rises bs (b.at + b.size) end h.3
laid_within (b ∷ bs) from end (suc k) d h lt = laid_within bs (b.at + b.size) end k d h.3 (omega arith)

-- the places rise along the list
pub laid_sorted : (bs : List Span) (from end : ℕ) → IsLaid from bs end → IsNonDecreasingBy (λ b. b.at) bs
laid_sorted [] from end h i j d le lt = absurd (omega arith)
laid_sorted (b ∷ bs) from end h zero zero d le lt = omega arith
laid_sorted (b ∷ bs) from end h zero (suc j) d le lt = omega (arith, laid_at bs (b.at + b.size) end j d h.3 (omega arith))
laid_sorted (b ∷ bs) from end h (suc i) zero d le lt = absurd (omega arith)
laid_sorted (b ∷ bs) from end h (suc i) (suc j) d le lt = laid_sorted bs (b.at + b.size) end h.3 i j d (omega arith) (omega arith)

-- n bytes from at on overlap none of these blocks, block by block
abbrev pub IsClear : ℕ → ℕ → List Span → Type 0
IsClear n at [] = Unit {0}
IsClear n at (b ∷ bs) = ((at + n ≤ b.at) ⊎ (b.at + b.size ≤ at)) × IsClear n at bs

pub apart_is : (b : Span) (n at : ℕ) → overlaps at n b ≡ false → (at + n ≤ b.at) ⊎ (b.at + b.size ≤ at)
apart_is b n at h = elim (cases_lt at (b.at + b.size)) [ inl lt ↦ inl (grind (arith, nat_tests)) | inr le ↦ inr le ]

pub is_apart : (b : Span) (n at : ℕ) → (at + n ≤ b.at) ⊎ (b.at + b.size ≤ at) → overlaps at n b ≡ false
is_apart b n at (inl before) = grind (arith, nat_tests)
is_apart b n at (inr past) = grind (arith, nat_tests)

pub clear_is : (bs : List Span) (n at : ℕ) → list_any (overlaps at n) bs ≡ false → IsClear n at bs
clear_is [] n at h = tt
clear_is (b ∷ bs) n at h = on (overlaps at n b) refl h (clear_is bs n at)
  where
    on : (t : Bool) → overlaps at n b ≡ t → (t || list_any (overlaps at n) bs) ≡ false → (list_any (overlaps at n) bs ≡ false → IsClear n at bs) → IsClear n at (b ∷ bs)
    on true e h rest = absurd (cc)
    on false e h rest = (apart_is b n at e, rest h)

pub is_clear : (bs : List Span) (n at : ℕ) → IsClear n at bs → list_any (overlaps at n) bs ≡ false
is_clear [] n at h = refl
is_clear (b ∷ bs) n at h = rw (is_apart b n at h.0) (is_clear bs n at h.1)

-- what ends before the first block is clear
pub clear_before : (bs : List Span) (from end n at : ℕ) → IsLaid from bs end → at + n ≤ from → IsClear n at bs
clear_before [] from end n at h le = tt
clear_before (b ∷ bs) from end n at h le = (inl (omega (arith, h.0)), clear_before bs (b.at + b.size) end n at h.3 (omega (arith, h.0)))

-- a new block of bytes that are clear lies among the others
pub laid_with : (bs : List Span) (from end : ℕ) (e : Span) → IsLaid from bs end → from ≤ e.at → e.at + e.size ≤ end → e.at % 8 ≡ 0 → 0 < e.size → IsClear e.size e.at bs → IsLaid from (with_span e bs) end
laid_with [] from end e h begins ends aligned some clear = (begins, aligned, some, ends)
laid_with (b ∷ bs) from end e h begins ends aligned some clear =
    on (ltb e.at b.at) refl clear.0 (λ past. laid_with bs (b.at + b.size) end e h.3 past ends aligned some clear.1)
  where
    on : (t : Bool) → ltb e.at b.at ≡ t → (e.at + e.size ≤ b.at) ⊎ (b.at + b.size ≤ e.at) → (b.at + b.size ≤ e.at → IsLaid (b.at + b.size) (with_span e bs) end) → IsLaid from (cond t (e ∷ b ∷ bs) (b ∷ with_span e bs)) end
    on true lt (inl before) rec = (begins, aligned, some, (before, h.1, h.2, h.3))
    on true lt (inr past) rec = absurd (grind (arith, nat_tests, h.2))
    on false lt (inl before) rec = absurd (grind (arith, nat_tests))
    on false lt (inr past) rec = (h.0, h.1, h.2, rec past)

-- what is left without a block lies as it did
pub laid_without : (bs : List Span) (from end at : ℕ) (kind : Block) → IsLaid from bs end → IsLaid from (filter (λ b. not (begins_at at kind b)) bs) end
laid_without [] from end at kind h = h
laid_without (b ∷ bs) from end at kind h = on (begins_at at kind b) (laid_without bs (b.at + b.size) end at kind h.3)
  where
    on : (t : Bool) → IsLaid (b.at + b.size) (filter (λ b. not (begins_at at kind b)) bs) end → IsLaid from (cond (not t) (b ∷ filter (λ b. not (begins_at at kind b)) bs) (filter (λ b. not (begins_at at kind b)) bs)) end
    on true rec = laid_from _ from (b.at + b.size) end (omega (arith, h.0)) rec
    on false rec = (h.0, h.1, h.2, rec)
