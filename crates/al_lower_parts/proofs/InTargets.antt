-- The parts of a value that go into targets in a row.
use Rattle.std.proofs.Common.{◌≡◌, ℕ, ◌+◌, ◌<◌, ◌≤◌, List, [], ◌++◌, drop, length, get_or, sym, ap, ◌∙◌, append_assoc}
use Rattle.std.proofs.lemmas.List.{append-nil}
use Rattle.al_typed.specs.declared.expression.TTarget.{TTarget}
use Rattle.al_typed.specs.Typed.{target_type}
use Rattle.al_ir.specs.declared.ir.Operation.{Operation}
use Rattle.al_lower_code.specs.Homes.{Spot, words}
use Rattle.al_lower_code.specs.Coded.{Aimed}
use Rattle.al_lower_code.specs.Expressions.{aimed}
use Rattle.al_lower_operands.specs.Rows.{aimed_of}
use Rattle.al_lower_operands.proofs.InRows.{targets_at, targets_end}

-- what was made before, then one more, then the others
pub more : (out one others all rest : List Operation) → rest ≡ one ++ others → out ++ rest ≡ all → (out ++ one) ++ others ≡ all
more out one others all rest is so_far = append_assoc out one others ∙ ap (λ (os : List Operation). out ++ os) (sym is) ∙ so_far

pub done : (out all rest : List Operation) → rest ≡ [] → out ++ rest ≡ all → out ≡ all
done out all rest is so_far = sym (append-nil out) ∙ ap (λ (os : List Operation). out ++ os) (sym is) ∙ so_far

pub saves_more : (s : Spot) (xs : List TTarget) (i : ℕ) (x : TTarget) (to from : ℕ) (out all : List Operation) → i < length xs → x ≡ get_or xs i x
    → out ++ (aimed_of s (drop i xs)).save to from ≡ all
    → (out ++ (aimed s x).save to from) ++ (aimed_of s (drop (i + 1) xs)).save (to + (aimed s x).count) (from + words s (target_type x)) ≡ all
saves_more s xs i x to from out all h is = more out _ _ all _ (ap (λ (a : Aimed). a.save to from) (targets_at s xs i x h is))

pub saves_done : (s : Spot) (xs : List TTarget) (i to from : ℕ) (out all : List Operation) → length xs ≤ i → out ++ (aimed_of s (drop i xs)).save to from ≡ all → out ≡ all
saves_done s xs i to from out all h = done out all _ (ap (λ (a : Aimed). a.save to from) (targets_end s xs i h))

pub count_more : (s : Spot) (xs : List TTarget) (i : ℕ) (x : TTarget) → i < length xs → x ≡ get_or xs i x
    → (aimed_of s (drop i xs)).count ≡ (aimed s x).count + (aimed_of s (drop (i + 1) xs)).count
count_more s xs i x h is = ap (λ (a : Aimed). a.count) (targets_at s xs i x h is)

pub count_done : (s : Spot) (xs : List TTarget) (i : ℕ) → length xs ≤ i → (aimed_of s (drop i xs)).count ≡ 0
count_done s xs i h = ap (λ (a : Aimed). a.count) (targets_end s xs i h)
