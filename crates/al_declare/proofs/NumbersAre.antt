-- Lists of names and numbers, from a place on.
use Rattle.std.proofs.Common.{◌≡◌, ℕ, suc, ◌+◌, ◌<◌, ◌==◌, true, false, ◌&&◌, List, [], ◌∷◌, length, get_or, drop, refl, ap, ◌∙◌, sym, drop-cons, add-one}
use Rattle.std.proofs.lemmas.List.{drop_all}
use Rattle.al_tree.specs.declared.expression.Name.{Name}
use Rattle.al_declare.specs.Rules.{same_numbers}

pub same_numbers-from : (xs : List Name) (ys : List ℕ) (i : ℕ) (x : Name) (y : ℕ) → i < length xs → i < length ys → x ≡ get_or xs i x → y ≡ get_or ys i y
    → same_numbers (drop i xs) (drop i ys) ≡ (x.name == y && same_numbers (drop (i + 1) xs) (drop (i + 1) ys))
same_numbers-from xs ys i x y h k e d =
    rw (add-one) (ap (λ l. same_numbers l (drop i ys)) (drop-cons xs i x h) ∙ ap (same_numbers (get_or xs i x ∷ drop (suc i) xs)) (drop-cons ys i y k)
    ∙ ap (λ (u : Name). u.name == get_or ys i y && same_numbers (drop (suc i) xs) (drop (suc i) ys)) (sym e) ∙ ap (λ u. x.name == u && same_numbers (drop (suc i) xs) (drop (suc i) ys)) (sym d))

pub same_numbers-length : (xs : List Name) (ys : List ℕ) → same_numbers xs ys ≡ true → length xs ≡ length ys
same_numbers-length [] [] h = refl
same_numbers-length [] (y ∷ ys) h = cc
same_numbers-length (x ∷ xs) [] h = cc
same_numbers-length (x ∷ xs) (y ∷ ys) h = elim (x.name == y) as (λ b. (b && same_numbers xs ys) ≡ true → suc (length xs) ≡ suc (length ys)) [ true ↦ λ h. ap suc (same_numbers-length xs ys h) | false ↦ λ h. cc ] h

pub ruleset lists = (same_numbers-from, same_numbers-length, drop_all)
