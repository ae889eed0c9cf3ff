-- One expression in parentheses is itself, more are a tuple.
use Rattle.std.proofs.Common.{◌≡◌, ℕ, suc, ◌+◌, List, [], ◌∷◌, ◌++◌, length, refl, sym, ap, ◌∙◌, arith, length-append}
use Rattle.al_base.specs.declared.place.Place.{Place}
use Rattle.al_tree.specs.declared.expression.Expr.{Expr}
use Rattle.al_tree.specs.declared.expression.Expr.TheVariants as e
use Rattle.al_parse_expr.specs.Parse.{closed}

pub closed_one : (at : Place) (h : ℕ) (xs ys : List Expr) (x : Expr) → xs ≡ ys ++ x ∷ [] → length xs ≡ 1 → closed at (xs, h) ≡ (x, h + 1)
closed_one at h xs [] x s l = ap (λ zs. closed at (zs, h)) s
closed_one at h xs (y ∷ ys) x s l = absurd (let n = ap length s in omega (arith, n, l, length-append ys (x ∷ [])))

pub closed_other : (at : Place) (h : ℕ) (xs : List Expr) → (length xs ≡ 1 → ⊥) → closed at (xs, h) ≡ (e.Tuple at xs, h + 1)
closed_other at h [] n = refl
closed_other at h (x ∷ []) n = absurd (n refl)
closed_other at h (x ∷ y ∷ xs) n = refl
