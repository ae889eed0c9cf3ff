-- Bytes of words, put one by one or over others.
use Rattle.std.proofs.Common.{◌≡◌, ℕ, zero, suc, ◌+◌, ◌-◌, ◌/◌, ◌%◌, ◌<◌, ◌≤◌, ◌^◌, min, List, [], ◌∷◌, ◌++◌, take, drop, length, refl, sym, ap, ap₂, ◌∙◌, append_assoc, inl, inr, arith}
use Rattle.std.proofs.lemmas.Bool.{cases_lt}
use Rattle.std.proofs.lemmas.List.{drop_all, take_all}
use Rattle.al_event.specs.Store.{bytes_of, overwritten}
use Rattle.al_typed.specs.Capped.{capped}

pub byte_put : (size n word : ℕ) (out all : List ℕ) → n < size → out ++ bytes_of (size - n) word ≡ all
    → (out ++ word % 256 ∷ []) ++ bytes_of (size - (n + 1)) (word / 256) ≡ all
byte_put size n word out all h so_far =
    append_assoc out (word % 256 ∷ []) _ ∙ ap (λ m. out ++ bytes_of m word) (less size n h) ∙ so_far
  where
    less : (size n : ℕ) → n < size → suc (size - (n + 1)) ≡ size - n
    less size n h = omega arith

length-bytes : (n word : ℕ) → length (bytes_of n word) ≡ n
length-bytes zero word = refl
length-bytes (suc n) word = ap suc (length-bytes n (word / 256))

-- ---- cuts at places that may be past the end

take_cut : (at k : ℕ) (xs : List ℕ) → k ≡ min at (length xs) → take k xs ≡ take at xs
take_cut at k xs e =
    elim (cases_lt at (length xs)) [
      | inl within ↦ ap (λ n. take n xs) (omega arith)
      | inr past ↦ take_all k xs (omega arith) ∙ sym (take_all at xs (omega arith))
    ]

drop_cut : (at k : ℕ) (xs : List ℕ) → k ≡ min at (length xs) → drop k xs ≡ drop at xs
drop_cut at k xs e =
    elim (cases_lt at (length xs)) [
      | inl within ↦ ap (λ n. drop n xs) (omega arith)
      | inr past ↦ drop_all k xs (omega arith) ∙ sym (drop_all at xs (omega arith))
    ]

pub overwritten_is : (bytes : List ℕ) (at size word start end : ℕ) → length bytes < 2 ^ 64
    → start ≡ min at (length bytes) → end ≡ min (capped (at + size)) (length bytes)
    → (take start bytes ++ bytes_of size word) ++ drop end bytes ≡ overwritten bytes at (bytes_of size word)
overwritten_is bytes at size word start end few s e =
    append_assoc (take start bytes) (bytes_of size word) _
    ∙ ap₂ (λ front back. front ++ (bytes_of size word ++ back)) (take_cut at start bytes s)
    (drop_cut (at + size) end bytes (omega arith) ∙ ap (λ n. drop (at + n) bytes) (sym (length-bytes size word)))
