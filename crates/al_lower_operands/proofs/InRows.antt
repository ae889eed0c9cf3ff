-- Expressions and targets in a row, one after the other.
use Rattle.std.proofs.Common.{◌≡◌, ℕ, ◌+◌, ◌<◌, ◌≤◌, Bool, true, false, ◌&&◌, List, drop, length, get_or, sym, ap, ◌∙◌}
use Rattle.std.proofs.lemmas.List.{at_drop_all}
use Rattle.al_typed.specs.declared.expression.TExpr.{TExpr}
use Rattle.al_typed.specs.declared.expression.TTarget.{TTarget}
use Rattle.al_typed.specs.Typed.{type_of, target_type}
use Rattle.al_lower_code.specs.Homes.{Spot, words}
use Rattle.al_lower_code.specs.Coded.{Row}
use Rattle.al_lower_code.specs.Values.{no_row, row_with}
use Rattle.al_lower_code.specs.Actions.{no_aimed, aimed_with}
use Rattle.al_lower_code.specs.Expressions.{coded, aimed}
use Rattle.al_lower_base.proofs.Unconverted.{at_hand}
use Rattle.al_lower_operands.specs.Rows.{row_of, aimed_of}

pub row_at : (s : Spot) (es : List TExpr) (i : ℕ) (e : TExpr) → i < length es → e ≡ get_or es i e
    → row_of s (drop i es) ≡ row_with (words s (type_of e)) (coded s e) (row_of s (drop (i + 1) es))
row_at s es i e h is = ap (row_of s) (at_hand es i e h is)

pub row_end : (s : Spot) (es : List TExpr) (i : ℕ) → length es ≤ i → row_of s (drop i es) ≡ no_row
row_end s es i h = at_drop_all (row_of s) es i h

pub targets_at : (s : Spot) (xs : List TTarget) (i : ℕ) (x : TTarget) → i < length xs → x ≡ get_or xs i x
    → aimed_of s (drop i xs) ≡ aimed_with (words s (target_type x)) (aimed s x) (aimed_of s (drop (i + 1) xs))
targets_at s xs i x h is = ap (aimed_of s) (at_hand xs i x h is)

pub targets_end : (s : Spot) (xs : List TTarget) (i : ℕ) → length xs ≤ i → aimed_of s (drop i xs) ≡ no_aimed
targets_end s xs i h = at_drop_all (aimed_of s) xs i h

-- ---- a row keeps variables as far as one of its expressions does not

pub one_changes : (s : Spot) (es : List TExpr) (i : ℕ) (e : TExpr) → i < length es → e ≡ get_or es i e → false ≡ (coded s e).keeps
    → (row_of s es).keeps ≡ (row_of s (drop i es)).keeps → false ≡ (row_of s es).keeps
one_changes s es i e h is changes same =
    sym (same ∙ ap (λ (r : Row). r.keeps) (row_at s es i e h is) ∙ ap (λ (b : Bool). b && (row_of s (drop (i + 1) es)).keeps) (sym changes))

pub one_keeps : (s : Spot) (es : List TExpr) (i : ℕ) (e : TExpr) → i < length es → e ≡ get_or es i e → true ≡ (coded s e).keeps
    → (row_of s es).keeps ≡ (row_of s (drop i es)).keeps → (row_of s es).keeps ≡ (row_of s (drop (i + 1) es)).keeps
one_keeps s es i e h is keeps same =
    same ∙ ap (λ (r : Row). r.keeps) (row_at s es i e h is) ∙ ap (λ (b : Bool). b && (row_of s (drop (i + 1) es)).keeps) (sym keeps)

pub all_keep : (s : Spot) (es : List TExpr) (i : ℕ) → length es ≤ i → (row_of s es).keeps ≡ (row_of s (drop i es)).keeps → true ≡ (row_of s es).keeps
all_keep s es i h same = sym (same ∙ ap (λ (r : Row). r.keeps) (row_end s es i h))
