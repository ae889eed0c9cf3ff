-- The tokens from one on.
use Rattle.std.proofs.Common.{◌≡◌, ℕ, zero, suc, ◌+◌, ◌-◌, ◌≤◌, List, [], ◌∷◌, ◌++◌, length, take, drop, slice_range, refl, sym, ap, ap₂, ◌∙◌, arith, length-append, length-drop}
use Rattle.std.proofs.lemmas.List.{take_at}

drop_front : {A : Type 0} (front : List A) (x : A) (i : ℕ) → i ≤ length front → drop i (front ++ x ∷ []) ≡ drop i front ++ x ∷ []
drop_front front x zero h = refl
drop_front [] x (suc i) h = absurd (omega arith)
drop_front (y ∷ front) x (suc i) h = drop_front front x i (omega arith)

-- a range up to the last element, without it
pub front_range : {A : Type 0} (xs front : List A) (x : A) (i : ℕ) → xs ≡ front ++ x ∷ [] → i ≤ length front → slice_range xs i (length xs - 1) ≡ drop i front
front_range xs front x i e h =
    let size : length (drop i front) ≡ (length xs - 1) - i = omega (arith, ap length e, length-append front (x ∷ []), length-drop i front) in
    ap (λ l. take ((length xs - 1) - i) (drop i l)) e ∙ ap (take ((length xs - 1) - i)) (drop_front front x i h) ∙ take_at (drop i front) (x ∷ []) ((length xs - 1) - i) size
