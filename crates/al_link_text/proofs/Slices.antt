-- Parts of a list whose bounds may lie behind its end.
use Rattle.std.proofs.Common.{◌≡◌, ℕ, ◌-◌, ◌<◌, List, [], length, take, drop, ap, ◌∙◌, arith}
use Rattle.std.specs.Prelude.{slice_range}
use Rattle.std.proofs.lemmas.List.{drop_all, take_all}

take_none : (n : ℕ) → take n (let e : List ℕ = [] in e) ≡ []
take_none n = take_all n [] (omega arith)

pub range_past : (xs : List ℕ) (a b : ℕ) → length xs < a → slice_range xs a b ≡ []
range_past xs a b h = ap (take (b - a)) (drop_all a xs (omega arith)) ∙ take_none (b - a)

pub range_short : (xs : List ℕ) (a b : ℕ) → length (drop a xs) < b - a → slice_range xs a b ≡ drop a xs
range_short xs a b h = take_all (b - a) (drop a xs) (omega arith)
