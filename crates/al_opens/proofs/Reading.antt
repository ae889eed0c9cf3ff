-- Accesses within a block read its bytes.
use Rattle.std.proofs.Common.{◌≡◌, ℕ, zero, suc, ◌+◌, ◌%◌, ◌≤◌, Bool, true, false, if◌then◌else◌, List, [], ◌∷◌, length, take, drop, Some, ap, ◌∙◌, arith}
use Rattle.std.specs.Prelude.{nat_le, find, slice_get, Ok, Err}
use Rattle.std.proofs.lemmas.Bool.{and_from, and_right, le-leb, eq-eqb, false_from_ne_true, leb-true}
use Rattle.std.proofs.lemmas.Option.{same_Some}
use Rattle.al_base.specs.declared.trap.Trap.TheVariants.{Align}
use Rattle.al_event.specs.Store.{Live, lies_in, number_of, span_of, spans_of, word_in}
use Rattle.al_region.specs.Region.{IsLaid}
use Rattle.al_opens.specs.Standing.{block_at, Reads}

-- none begins before the first address
begins_from : (bs : List Live) (from end k : ℕ) (b : Live) → IsLaid from (spans_of bs) end → slice_get bs k ≡ Some b → from ≤ b.at
begins_from [] from end k b h e = absurd (cc)
begins_from (c ∷ bs) from end zero b h e = let same : c.at ≡ b.at = ap (λ (l : Live). l.at) (same_Some c b e) in omega (arith, h.0)
begins_from (c ∷ bs) from end (suc k) b h e = let later = begins_from bs (c.at + length c.bytes) end k b h.3 e in omega (arith, h.0)

-- the block in which bytes of a block lie is that one
lies_there : (bs : List Live) (from end k : ℕ) (b : Live) (at n : ℕ) → IsLaid from (spans_of bs) end → slice_get bs k ≡ Some b → 1 ≤ n → b.at ≤ at → at + n ≤ b.at + length b.bytes
    → find (λ c. lies_in at n (span_of c)) bs ≡ Some b
lies_there [] from end k b at n h e some low high = absurd (cc)
lies_there (c ∷ bs) from end zero b at n h e some low high =
    let same : c ≡ b = same_Some c b e in
    let inside : lies_in at n (span_of b) ≡ true = and_from (nat_le b.at at) (nat_le (at + n) (b.at + length b.bytes)) (le-leb b.at at low) (le-leb (at + n) (b.at + length b.bytes) high) in
    ap (λ (t : Bool). if t then Some c else find (λ c. lies_in at n (span_of c)) bs) (ap (λ c. lies_in at n (span_of c)) same ∙ inside) ∙ e
lies_there (c ∷ bs) from end (suc k) b at n h e some low high =
    let past = begins_from bs (c.at + length c.bytes) end k b h.3 e in
    let outside : lies_in at n (span_of c) ≡ false =
    and_right (nat_le c.at at) (nat_le (at + n) (c.at + length c.bytes))
    (false_from_ne_true (nat_le (at + n) (c.at + length c.bytes)) (λ le. let within = leb-true (at + n) (c.at + length c.bytes) le in absurd (omega arith))) in
    ap (λ (t : Bool). if t then Some c else find (λ c. lies_in at n (span_of c)) bs) outside
    ∙ lies_there bs (c.at + length c.bytes) end k b at n h.3 e some low high

pub reads : (store : List Live) (from end k at : ℕ) (bytes : List ℕ) → IsLaid from (spans_of store) end → slice_get store k ≡ Some (block_at at bytes) → Reads store at bytes
reads store from end k at bytes h e i n some inside divides =
    let there = lies_there store from end k (block_at at bytes) (at + i) n h e some (omega arith) (omega (arith, inside)) in
    ap (λ (t : Bool). if t then word_in (at + i) n (find (λ b. lies_in (at + i) n (span_of b)) store) else Err Align) (eq-eqb ((at + i) % n) 0 divides)
    ∙ (ap (word_in (at + i) n) there ∙ ap (λ j. Ok (number_of (take n (drop j bytes)))) (omega arith))
