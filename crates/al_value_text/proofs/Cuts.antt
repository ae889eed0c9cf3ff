-- Where lists of words are cut by numbers that are kept in 64 bits.
use Rattle.std.proofs.Common.{◌≡◌, ◌<◌, ◌^◌, ◌∙◌, ℕ, List, length, take, drop, ap, sym, arith, inl, inr}
use Rattle.std.proofs.lemmas.List.{take_all, drop_all}
use Rattle.std.proofs.lemmas.Bool.{cases_lt}
use Rattle.al_typed.specs.Capped.{capped}

pub cut_capped : (n count : ℕ) (xs : List ℕ) → length xs < 2 ^ 64 → count ≡ capped n → (take count xs ≡ take n xs) × (drop count xs ≡ drop n xs)
cut_capped n count xs h e =
    elim (cases_lt n (2 ^ 64)) [
      | inl within ↦ let same : count ≡ n = omega arith in (ap (λ k. take k xs) same, ap (λ k. drop k xs) same)
      | inr past ↦ (take_all count xs (omega arith) ∙ sym (take_all n xs (omega arith)), drop_all count xs (omega arith) ∙ sym (drop_all n xs (omega arith)))
    ]
