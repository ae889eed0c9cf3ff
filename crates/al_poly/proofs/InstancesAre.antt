-- Instances that lists name, one after the other.
use Rattle.std.proofs.Common.{◌≡◌, ℕ, suc, None, ◌+◌, ◌<◌, ◌≤◌, List, [], ◌++◌, drop, length, get_or, refl, ap, ◌∙◌, sym, drop-cons, add-one}
use Rattle.std.specs.List.{flat_map}
use Rattle.std.proofs.lemmas.List.{drop_all}
use Rattle.std.proofs.lemmas.List.Sums.{fold-append}
use Rattle.al_poly.specs.declared.instance.Instance.{Instance}
use Rattle.al_poly.specs.declared.names.Names.{Names}
use Rattle.al_poly.specs.declared.piece.Piece.{Piece}
use Rattle.al_poly.specs.Instances.{with_instance, with_all, named, follow, followed}

pub with_all-append : (list xs ys : List Instance) → with_all list (xs ++ ys) ≡ with_all (with_all list xs) ys
with_all-append list xs ys = fold-append with_instance list xs ys

-- the list from a place on begins with what stands there
pub with_all-from : {A : Type 0} (f : A → List Instance) (list : List Instance) (xs : List A) (i : ℕ) (x : A) → i < length xs → x ≡ get_or xs i x
    → with_all list (flat_map f (drop i xs)) ≡ with_all (with_all list (f x)) (flat_map f (drop (i + 1) xs))
with_all-from f list xs i x h e =
    rw (add-one) (ap (λ l. with_all list (flat_map f l)) (drop-cons xs i x h) ∙ ap (λ y. with_all list (f y ++ flat_map f (drop (suc i) xs))) (sym e)
    ∙ with_all-append list (f x) (flat_map f (drop (suc i) xs)))

-- and past its end there is nothing
pub with_all-end : {A : Type 0} (f : A → List Instance) (list : List Instance) (xs : List A) (i : ℕ) → length xs ≤ i → with_all list (flat_map f (drop i xs)) ≡ list
with_all-end f list xs i h = ap (λ l. with_all list (flat_map f l)) (drop_all i xs h)

pub ruleset fronts = (with_all-append, with_all-from, with_all-end)

-- ---- the list, one instance more

pub followed-none : (names : Names) (pieces : List Piece) → followed names pieces 0 ≡ with_all [] (named names pieces None)
unfolding followed
followed-none names pieces = refl

pub followed-more : (names : Names) (pieces : List Piece) (n : ℕ) → followed names pieces (n + 1) ≡ follow names pieces (followed names pieces n) n
unfolding followed
followed-more names pieces n = rw (add-one) refl

pub ruleset followed_is = (followed-none, followed-more)
