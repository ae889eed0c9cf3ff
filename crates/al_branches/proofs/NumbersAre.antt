-- Branches with their numbers, one after the other, where numbers are capped.
use Rattle.std.proofs.Common.{◌≡◌, ℕ, suc, ◌+◌, ◌<◌, ◌≤◌, ◌^◌, ◌-◌, ◌∷◌, ◌++◌, min, Bool, true, false, List, [], length, get_or, take, drop, refl, ap, ◌∙◌, sym, inl, inr, arith, add-one, drop-cons, append_assoc}
use Rattle.std.specs.Prelude.{if◌then◌else◌}
use Rattle.std.proofs.lemmas.Bool.{cases_lt, lt-leb}
use Rattle.std.proofs.lemmas.List.{drop_all, append-nil}
use Rattle.al_base.specs.declared.place.Place.{Place}
use Rattle.al_tree.specs.declared.item.Item.{Item}
use Rattle.al_declare.specs.declared.function.Defined.{Defined}
use Rattle.al_typed.specs.Capped.{capped}
use Rattle.al_environment.specs.declared.numbered.Numbered.{Numbered}
use Rattle.al_branches.specs.Numbers.{numbered_at, numbered, numbers_of, numbers_from}

abbrev if_small : Bool → ℕ → Place → List Numbered
if_small b n at = if b then record { at = at; number = n } ∷ [] else []

-- a number that is too great
too_great : (n : ℕ) (at : Place) → 4294967295 < n → numbered_at n at ≡ []
too_great n at h = ap (λ b. if_small b n at) (lt-leb n 4294967295 h)

-- a number that is capped is too great where it was
numbered_at-capped : (n : ℕ) (at : Place) → numbered_at (capped n) at ≡ numbered_at n at
numbered_at-capped n at = elim (cases_lt n (2 ^ 64)) [
  | inl small ↦ ap (λ m. numbered_at m at) (omega arith)
  | inr large ↦ too_great (capped n) at (omega arith) ∙ sym (too_great n at (omega arith))
]

pub numbered-capped : (n apart : ℕ) (ats : List Place) → numbered (capped n) apart ats ≡ numbered n apart ats
unfolding numbered
numbered-capped n apart [] = refl
numbered-capped n apart (at ∷ ats) =
    ap (λ ns. ns ++ numbered (capped n + apart) apart ats) (numbered_at-capped n at)
    ∙ ap (λ ns. numbered_at n at ++ ns)
    (sym (numbered-capped (capped n + apart) apart ats) ∙ ap (λ m. numbered m apart ats) (twice n apart) ∙ numbered-capped (n + apart) apart ats)
  where
    twice : (n apart : ℕ) → capped (capped n + apart) ≡ capped (n + apart)
    twice n apart = omega arith

pub numbered-from : (ats : List Place) (i n apart : ℕ) (p : Place) → i < length ats
    → numbered n apart (drop i ats) ≡ numbered_at n (get_or ats i p) ++ numbered (min (n + apart) (2 ^ 64 - 1)) apart (drop (i + 1) ats)
unfolding numbered
numbered-from ats i n apart p h =
    ap (numbered n apart) (drop-cons ats i p h)
    ∙ ap (λ ns. numbered_at n (get_or ats i p) ++ ns)
    (sym (numbered-capped (n + apart) apart (drop (suc i) ats)) ∙ ap (λ k. numbered (capped (n + apart)) apart (drop k ats)) (sym (add-one i)))

pub numbered-end : (ats : List Place) (i n apart : ℕ) → length ats ≤ i → numbered n apart (drop i ats) ≡ []
unfolding numbered
numbered-end ats i n apart h = ap (numbered n apart) (drop_all i ats h)

pub ruleset numbers_are = (numbered-from, numbered-end, append_assoc, append-nil)

module _ (items : List Item) (all : List Defined) where
  pub numbers-from : (k : ℕ) (p : Defined) → k < length all
      → numbers_from items all k (drop k all) ≡ numbers_of items all k (get_or all k p) ∷ numbers_from items all (k + 1) (drop (k + 1) all)
  unfolding numbers_from
  numbers-from k p h =
      ap (numbers_from items all k) (drop-cons all k p h)
      ∙ ap (λ i. numbers_of items all k (get_or all k p) ∷ numbers_from items all (k + 1) (drop i all)) (sym (add-one k))

  pub numbers-end : (k : ℕ) → length all ≤ k → numbers_from items all k (drop k all) ≡ []
  unfolding numbers_from
  numbers-end k h = ap (numbers_from items all k) (drop_all k all h)
