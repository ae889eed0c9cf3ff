-- Elements of a list, put from the last to the first, or gone through from the first to the last.
use Rattle.std.proofs.Common.{◌≡◌, ℕ, ◌+◌, ◌<◌, ◌≤◌, List, [], ◌++◌, length, drop, get_or, sym, ap, ◌∙◌, append_assoc}
use Rattle.std.specs.List.{flat_map}
use Rattle.std.proofs.lemmas.List.{drop_more, drop_all}

-- what the elements from one on give
pub flat_from : {A B : Type 0} (f : A → List B) (xs : List A) (k : ℕ) (x : A) → k < length xs → x ≡ get_or xs k x
    → flat_map f (drop k xs) ≡ f x ++ flat_map f (drop (k + 1) xs)
flat_from f xs k x h is = ap (flat_map f) (drop_more xs k x h) ∙ ap (λ y. f y ++ flat_map f (drop (k + 1) xs)) (sym is)

pub flat_past : {A B : Type 0} (f : A → List B) (xs : List A) (k : ℕ) → length xs ≤ k → flat_map f (drop k xs) ≡ []
flat_past f xs k past = ap (flat_map f) (drop_all k xs past)

-- an element more, before what was put
pub put_more : {A B : Type 0} (f : A → List B) (xs : List A) (k : ℕ) (x : A) (old now new : List B) → k < length xs → x ≡ get_or xs k x
    → now ≡ flat_map f (drop (k + 1) xs) ++ old → new ≡ f x ++ now → new ≡ flat_map f (drop k xs) ++ old
put_more f xs k x old now new h is before e =
    e ∙ ap (λ l. f x ++ l) before
    ∙ sym (append_assoc (f x) (flat_map f (drop (k + 1) xs)) old)
    ∙ ap (λ l. l ++ old) (sym (flat_from f xs k x h is))
