-- Bounds of iterators, taken from values that were found.
use Rattle.std.proofs.Common.{◌≡◌, ◌<◌, ℕ, suc, List, [], ◌∷◌, ◌++◌, length, get_or, map, Option, MatchOption, sym, ap, subst, ◌∙◌, append_assoc, arith}
use Rattle.std.proofs.lemmas.List.{append-nil, map-append}
use Rattle.al_meaning.specs.Execute as spec
use Rattle.al_meaning.specs.Items as item
use Rattle.al_control.specs.declared.work.Bounds.{Bounds}
use Rattle.al_control.specs.Models.{bounds_of}

-- the bounds of an iterator more
pub bounds_taken : (all : List Bounds) (b : Bounds) (before values : List (List ℕ)) (whole : List item.Bounds)
    → spec.bounds_of before ≡ bounds_of b ∷ spec.bounds_of values → map bounds_of all ++ spec.bounds_of before ≡ whole
    → map bounds_of (all ++ b ∷ []) ++ spec.bounds_of values ≡ whole
bounds_taken all b before values whole e so_far =
    ap (λ (l : List item.Bounds). l ++ spec.bounds_of values) (map-append bounds_of all (b ∷ []))
    ∙ append_assoc (map bounds_of all) (bounds_of b ∷ []) (spec.bounds_of values)
    ∙ ap (λ (l : List item.Bounds). map bounds_of all ++ l) (sym e)
    ∙ so_far

-- all of them
pub bounds_over : (all : List Bounds) (values : List (List ℕ)) (whole : List item.Bounds) → spec.bounds_of values ≡ []
    → map bounds_of all ++ spec.bounds_of values ≡ whole → map bounds_of all ≡ whole
bounds_over all values whole e so_far =
    sym (append-nil (map bounds_of all)) ∙ ap (λ (l : List item.Bounds). map bounds_of all ++ l) (sym e) ∙ so_far

-- ---- the first two values

pub one_left : (from : List ℕ) (values : List (List ℕ)) → values ≡ [] → spec.bounds_of (from ∷ values) ≡ []
one_left from values e = ap (λ (l : List (List ℕ)). spec.bounds_of (from ∷ l)) e

pub two_left : (from to : List ℕ) (values after : List (List ℕ)) (b : Bounds) → values ≡ to ∷ after → bounds_of b ≡ record { from = get_or from 0 0; to = get_or to 0 0 }
    → spec.bounds_of (from ∷ values) ≡ bounds_of b ∷ spec.bounds_of after
two_left from to values after b e same =
    ap (λ (l : List (List ℕ)). spec.bounds_of (from ∷ l)) e ∙ ap (λ (x : item.Bounds). x ∷ spec.bounds_of after) (sym same)

pub fewer : (from to : List ℕ) (values after : List (List ℕ)) → values ≡ to ∷ after → length after < length (from ∷ values)
fewer from to values after e = let n : length values ≡ suc (length after) = ap (λ (l : List (List ℕ)). length l) e in omega arith

pub bounds_there : (r : Option Bounds) (from : List ℕ) (values mid after : List (List ℕ)) → values ≡ from ∷ mid
    → MatchOption r (spec.bounds_of (from ∷ mid) ≡ []) (λ b. (spec.bounds_of (from ∷ mid) ≡ bounds_of b ∷ spec.bounds_of after) × (length after < length (from ∷ mid)))
    → MatchOption r (spec.bounds_of values ≡ []) (λ b. (spec.bounds_of values ≡ bounds_of b ∷ spec.bounds_of after) × (length after < length values))
bounds_there r from values mid after e made =
    subst (λ (l : List (List ℕ)). MatchOption r (spec.bounds_of l ≡ []) (λ b. (spec.bounds_of l ≡ bounds_of b ∷ spec.bounds_of after) × (length after < length l))) (sym e) made
