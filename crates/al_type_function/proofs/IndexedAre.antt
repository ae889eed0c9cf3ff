-- What is made of elements by their numbers, from a place on.
use Rattle.std.proofs.Common.{◌≡◌, ℕ, suc, ◌+◌, ◌<◌, ◌≤◌, List, [], ◌∷◌, ◌++◌, length, get_or, drop, ap, ◌∙◌, sym, append_assoc, drop-cons, add-one}
use Rattle.std.proofs.lemmas.List.{drop_all, append-nil}
use Rattle.al_type_function.specs.Numbers.{indexed}

pub indexed-here : {A B : Type 0} (f : ℕ → A → B) (xs : List A) (k : ℕ) (x : A) (d : List B) → k < length xs → x ≡ get_or xs k x
    → d ++ indexed f k (drop k xs) ≡ (d ++ f k x ∷ []) ++ indexed f (k + 1) (drop (k + 1) xs)
unfolding indexed
indexed-here f xs k x d h e =
    ap (λ l. d ++ indexed f k l) (drop-cons xs k x h ∙ ap (λ y. y ∷ drop (suc k) xs) (sym e) ∙ ap (λ n. x ∷ drop n xs) (sym (add-one k)))
    ∙ sym (append_assoc d (f k x ∷ []) (indexed f (k + 1) (drop (k + 1) xs)))

pub indexed-end : {A B : Type 0} (f : ℕ → A → B) (xs : List A) (k : ℕ) (d : List B) → length xs ≤ k → d ++ indexed f k (drop k xs) ≡ d
unfolding indexed
indexed-end f xs k d h = ap (λ l. d ++ indexed f k l) (drop_all k xs h) ∙ append-nil d

-- one more
pub indexed-more : {A B : Type 0} (f : ℕ → A → B) (xs : List A) (k : ℕ) (x : A) (y : B) (whole now new : List B) → k < length xs → x ≡ get_or xs k x → y ≡ f k x → new ≡ now ++ y ∷ []
    → whole ≡ now ++ indexed f k (drop k xs) → whole ≡ new ++ indexed f (k + 1) (drop (k + 1) xs)
indexed-more f xs k x y whole now new h e made pushed was =
    was ∙ indexed-here f xs k x now h e
    ∙ ap (λ l. l ++ indexed f (k + 1) (drop (k + 1) xs)) (ap (λ z. now ++ z ∷ []) (sym made) ∙ sym pushed)

pub ruleset indexed_are = (indexed-end)
