-- Lists from a place on.
use Rattle.std.proofs.Common.{◌≡◌, ℕ, suc, ◌+◌, ◌<◌, ◌≤◌, List, [], ◌∷◌, ◌++◌, map, length, get_or, drop, ap, ◌∙◌, sym, append_assoc, drop-cons, add-one}
use Rattle.std.specs.List.{flat_map}
use Rattle.std.proofs.lemmas.List.{drop_all, append-nil}

-- the list from a place on begins with what stands there
pub from_here : {A B : Type 0} (f : A → B) (xs : List A) (i : ℕ) (x : A) → i < length xs → x ≡ get_or xs i x → map f (drop i xs) ≡ f x ∷ map f (drop (i + 1) xs)
from_here f xs i x h e = rw (add-one) (ap (map f) (drop-cons xs i x h) ∙ ap (λ y. f y ∷ map f (drop (suc i) xs)) (sym e))

-- and past its end there is nothing
pub none_here : {A B : Type 0} (f : A → B) (xs : List A) (i : ℕ) → length xs ≤ i → map f (drop i xs) ≡ []
none_here f xs i h = ap (map f) (drop_all i xs h)

pub flat_here : {A B : Type 0} (f : A → List B) (xs : List A) (i : ℕ) (x : A) → i < length xs → x ≡ get_or xs i x → flat_map f (drop i xs) ≡ f x ++ flat_map f (drop (i + 1) xs)
flat_here f xs i x h e = rw (add-one) (ap (flat_map f) (drop-cons xs i x h) ∙ ap (λ y. f y ++ flat_map f (drop (suc i) xs)) (sym e))

pub flat_end : {A B : Type 0} (f : A → List B) (xs : List A) (i : ℕ) → length xs ≤ i → flat_map f (drop i xs) ≡ []
flat_end f xs i h = ap (flat_map f) (drop_all i xs h)

pub ruleset flat = (flat_here, flat_end, append_assoc, append-nil)
