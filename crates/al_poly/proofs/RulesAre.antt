-- The breaks of rules 13 and 14 in each kind of type.
use Rattle.std.proofs.Common.{◌≡◌, ℕ, ◌+◌, ◌<◌, List, [], ◌∷◌, ◌++◌, map, take, length, get_or, Bor, Option, refl, ap, ◌∙◌, sym, append_assoc}
use Rattle.std.specs.List.{flat_map}
use Rattle.std.proofs.lemmas.List.{take_more, append-nil, length-map, map-append}
use Rattle.std.proofs.lemmas.Grind.{flat_map-append}
use Rattle.al_base.specs.declared.place.Place.{Place}
use Rattle.al_tree.specs.declared.type_tree.BasicType.{BasicType}
use Rattle.al_tree.specs.declared.type_tree.Bound.{Bound}
use Rattle.al_tree.specs.declared.type_tree.TypeTree.{TypeTree, fold-TypeTree, fold-roll-TypeTree}
use Rattle.al_tree.specs.declared.type_tree.TypeTree.TheVariants as t
use Rattle.al_tree.specs.declared.type_tree.TypeTree.TheOpen.{TypeTree-F}
use Rattle.al_poly.specs.declared.names.Names.{Names}
use Rattle.al_poly.specs.Rules.{Misuses, misuse_step, misuses_in, misuses_of_name}

of_each-map : {A : Type 0} (f : A → Misuses) (xs : List A) → flat_map (λ ms. ms) (map f xs) ≡ flat_map f xs
of_each-map f [] = refl
of_each-map f (x ∷ xs) = ap (λ l. f x ++ l) (of_each-map f xs)

flat_map_one_more : {A B : Type 0} (f : A → List B) (xs : List A) (i : ℕ) (item : A) → i < length xs → item ≡ get_or xs i item
    → flat_map f (take (i + 1) xs) ≡ flat_map f (take i xs) ++ f item
flat_map_one_more f xs i item h is =
    ap (flat_map f) (take_more xs i item h) ∙ flat_map-append f (take i xs) (get_or xs i item ∷ [])
    ∙ ap (λ l. flat_map f (take i xs) ++ l) (append-nil (f (get_or xs i item)) ∙ ap f (sym is))

-- those of one more
pub misuses_more : {A : Type 0} (f : A → Misuses) (before : Misuses) (xs : List A) (i : ℕ) (item : A) (now new : Misuses) → i < length xs → item ≡ get_or xs i item
    → now ≡ before ++ flat_map f (take i xs) → new ≡ now ++ f item → new ≡ before ++ flat_map f (take (i + 1) xs)
misuses_more f before xs i item now new h is was step =
    step ∙ ap (λ l. l ++ f item) was ∙ append_assoc before (flat_map f (take i xs)) (f item)
    ∙ ap (λ l. before ++ l) (sym (flat_map_one_more f xs i item h is))

-- those of a list with one more of its elements
pub misuses-first_more : {A : Type 0} (f : A → Misuses) (xs : List A) (i : ℕ) (item : A) (now new : Misuses) → i < length xs → item ≡ get_or xs i item
    → now ≡ flat_map f (take i xs) → new ≡ now ++ f item → new ≡ flat_map f (take (i + 1) xs)
misuses-first_more f xs i item now new h is was step = step ∙ ap (λ l. l ++ f item) was ∙ sym (flat_map_one_more f xs i item h is)

pub ruleset first_more = (misuses-first_more)

module _ (names : Names) (owner : Option ℕ) where
  at-Basic : (at : Place) (basic : BasicType) → misuses_in names owner (t.Basic at basic) ≡ misuse_step names owner (TypeTree-F.Basic at basic)
  unfolding misuses_in
  at-Basic at basic = ap (fold-TypeTree Misuses (misuse_step names owner)) (sym (t.rolls-Basic at basic)) ∙ fold-roll-TypeTree Misuses (misuse_step names owner) (TypeTree-F.Basic at basic)

  pub misuses_in-Basic : (at : Place) (basic : BasicType) → misuses_in names owner (t.Basic at basic) ≡ []
  misuses_in-Basic at basic = at-Basic at basic

  at-Named : (at : Place) (name : ℕ) (xs : List TypeTree) → misuses_in names owner (t.Named at name xs) ≡ misuse_step names owner (TypeTree-F.Named at name (map (misuses_in names owner) xs))
  unfolding misuses_in
  at-Named at name xs = ap (fold-TypeTree Misuses (misuse_step names owner)) (sym (t.rolls-Named at name xs)) ∙ fold-roll-TypeTree Misuses (misuse_step names owner) (TypeTree-F.Named at name xs)

  pub misuses_in-Named : (at : Place) (name : ℕ) (xs : List TypeTree) → misuses_in names owner (t.Named at name xs) ≡ misuses_of_name names owner at name (length xs) ++ flat_map (misuses_in names owner) xs
  misuses_in-Named at name xs = at-Named at name xs ∙ ap (λ n. misuses_of_name names owner at name n ++ flat_map (λ ms. ms) (map (misuses_in names owner) xs)) (length-map xs (misuses_in names owner)) ∙ ap (λ l. misuses_of_name names owner at name (length xs) ++ l) (of_each-map (misuses_in names owner) xs)

  at-Tuple : (at : Place) (xs : List TypeTree) → misuses_in names owner (t.Tuple at xs) ≡ misuse_step names owner (TypeTree-F.Tuple at (map (misuses_in names owner) xs))
  unfolding misuses_in
  at-Tuple at xs = ap (fold-TypeTree Misuses (misuse_step names owner)) (sym (t.rolls-Tuple at xs)) ∙ fold-roll-TypeTree Misuses (misuse_step names owner) (TypeTree-F.Tuple at xs)

  pub misuses_in-Tuple : (at : Place) (xs : List TypeTree) → misuses_in names owner (t.Tuple at xs) ≡ flat_map (misuses_in names owner) xs
  misuses_in-Tuple at xs = at-Tuple at xs ∙ of_each-map (misuses_in names owner) xs

  at-Chan : (at : Place) (x : TypeTree) (bound : Option Bound) → misuses_in names owner (t.Chan at x bound) ≡ misuse_step names owner (TypeTree-F.Chan at (misuses_in names owner x) bound)
  unfolding misuses_in
  at-Chan at x bound = ap (fold-TypeTree Misuses (misuse_step names owner)) (sym (t.rolls-Chan at x bound)) ∙ fold-roll-TypeTree Misuses (misuse_step names owner) (TypeTree-F.Chan at x bound)

  pub misuses_in-Chan : (at : Place) (x : TypeTree) (bound : Option Bound) → misuses_in names owner (t.Chan at x bound) ≡ misuses_in names owner x
  misuses_in-Chan at x bound = at-Chan at x bound

  at-Pointer : (at : Place) (x : TypeTree) → misuses_in names owner (t.Pointer at x) ≡ misuse_step names owner (TypeTree-F.Pointer at (misuses_in names owner x))
  unfolding misuses_in
  at-Pointer at x = ap (fold-TypeTree Misuses (misuse_step names owner)) (sym (t.rolls-Pointer at x)) ∙ fold-roll-TypeTree Misuses (misuse_step names owner) (TypeTree-F.Pointer at x)

  pub misuses_in-Pointer : (at : Place) (x : TypeTree) → misuses_in names owner (t.Pointer at x) ≡ misuses_in names owner x
  misuses_in-Pointer at x = at-Pointer at x

  at-Array : (at : Place) (bound : Bound) (x : TypeTree) → misuses_in names owner (t.Array at bound x) ≡ misuse_step names owner (TypeTree-F.Array at bound (misuses_in names owner x))
  unfolding misuses_in
  at-Array at bound x = ap (fold-TypeTree Misuses (misuse_step names owner)) (sym (t.rolls-Array at bound x)) ∙ fold-roll-TypeTree Misuses (misuse_step names owner) (TypeTree-F.Array at bound x)

  pub misuses_in-Array : (at : Place) (bound : Bound) (x : TypeTree) → misuses_in names owner (t.Array at bound x) ≡ misuses_in names owner x
  misuses_in-Array at bound x = at-Array at bound x

pub ruleset misuses_are = (misuses_in-Basic, misuses_in-Named, misuses_in-Tuple, misuses_in-Chan, misuses_in-Pointer, misuses_in-Array, append-nil, append_assoc)

-- those of one type more, each where it stands
pub written-more : (f : TypeTree → Misuses) (before : Misuses) (xs : List (Bor TypeTree)) (i : ℕ) (item : Bor TypeTree) (now new : Misuses) → i < length xs → item ≡ get_or xs i item
    → now ≡ before ++ flat_map f (map (λ t. t.now) (take i xs)) → new ≡ now ++ f item.now → new ≡ before ++ flat_map f (map (λ t. t.now) (take (i + 1) xs))
written-more f before xs i item now new h is was step =
    step ∙ ap (λ l. l ++ f item.now) was ∙ append_assoc before (flat_map f (map (λ t. t.now) (take i xs))) (f item.now)
    ∙ ap (λ l. before ++ l) (sym (ap (λ l. flat_map f (map (λ t. t.now) l)) (take_more xs i item h) ∙ ap (flat_map f) (map-append (λ t. t.now) (take i xs) (get_or xs i item ∷ []))
    ∙ flat_map-append f (map (λ t. t.now) (take i xs)) ((get_or xs i item).now ∷ []) ∙ ap (λ l. flat_map f (map (λ t. t.now) (take i xs)) ++ l) (append-nil (f (get_or xs i item).now) ∙ ap (λ x. f x.now) (sym is))))

pub ruleset written_more = (written-more)
