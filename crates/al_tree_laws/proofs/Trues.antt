-- Tests that hold of all elements of a list, with one more.
use Rattle.std.proofs.Common.{◌≡◌, Bool, true, ◌&&◌, List, [], ◌∷◌, ◌++◌, map, refl, ap₂, ◌∙◌}
use Rattle.std.specs.List.{list_all}
use Rattle.std.proofs.lemmas.List.Folds.{list_all-append, list_all-map}
use Rattle.al_tree_laws.specs.Unions.{has_some}

pub both_true : {a b : Bool} → a ≡ true → b ≡ true → (a && b) ≡ true
both_true h k = ap₂ (λ a b. a && b) h k

pub all_one_more : {A : Type 0} (p : A → Bool) (xs : List A) (x : A) → list_all p xs ≡ true → p x ≡ true → list_all p (xs ++ x ∷ []) ≡ true
all_one_more p xs x h k = list_all-append p xs (x ∷ []) ∙ both_true h (both_true k refl)

pub all_map : {A : Type 0} (p : A → Bool) (xs : List A) → list_all p xs ≡ true → list_all (λ b. b) (map p xs) ≡ true
all_map p xs h = list_all-map (λ b. b) p xs ∙ h

pub some_more : {A : Type 0} (xs : List A) (x : A) → has_some (xs ++ x ∷ []) ≡ true
some_more [] x = refl
some_more (y ∷ xs) x = refl

pub some_map : {A B : Type 0} (f : A → B) (xs : List A) → has_some xs ≡ true → has_some (map f xs) ≡ true
some_map f [] h = h
some_map f (x ∷ xs) h = refl
