-- What written types are, for each kind.
use Rattle.std.proofs.Common.{◌≡◌, ℕ, suc, ◌+◌, ◌<◌, ◌≤◌, List, [], ◌∷◌, ◌++◌, map, length, get_or, drop, Option, Some, None, option_map, refl, ap, ◌∙◌, sym, append_assoc, drop-cons, add-one}
use Rattle.std.specs.List.{flat_map}
use Rattle.std.specs.Option.{option_to_list}
use Rattle.std.proofs.lemmas.List.{drop_all, append-nil}
use Rattle.al_base.specs.declared.place.Place.{Place}
use Rattle.al_tree.specs.declared.type_tree.BasicType.{BasicType}
use Rattle.al_tree.specs.declared.type_tree.Bound.{Bound}
use Rattle.al_tree.specs.declared.type_tree.TypeTree.{TypeTree, fold-TypeTree, fold-roll-TypeTree}
use Rattle.al_tree.specs.declared.type_tree.TypeTree.TheVariants as t
use Rattle.al_tree.specs.declared.type_tree.TypeTree.TheOpen.{TypeTree-F}
use Rattle.al_tree.specs.Constants.{bound_number}
use Rattle.al_poly.specs.declared.concrete_type.ConcreteType.{ConcreteType}
use Rattle.al_poly.specs.declared.concrete_type.ConcreteType.TheVariants as ty
use Rattle.al_poly.specs.declared.instance.Instance.{Instance}
use Rattle.al_poly.specs.declared.names.Names.{Names}
use Rattle.al_poly.specs.Types.{Meaning, meaning_step, meaning, type_of, instances_in, types_in, named_in, type_named, named_by, all_of, chan_type, array_type, capacity}

module _ (names : Names) (inside : Option Instance) where
  types_in-map : (xs : List TypeTree) → types_in (map (meaning names inside) xs) ≡ map (type_of names inside) xs
  types_in-map [] = refl
  types_in-map (x ∷ xs) = ap (λ l. type_of names inside x ∷ l) (types_in-map xs)

  named_in-map : (xs : List TypeTree) → named_in (map (meaning names inside) xs) ≡ flat_map (instances_in names inside) xs
  named_in-map [] = refl
  named_in-map (x ∷ xs) = ap (λ l. instances_in names inside x ++ l) (named_in-map xs)

  at-Basic : (at : Place) (basic : BasicType) → meaning names inside (t.Basic at basic) ≡ meaning_step names inside (TypeTree-F.Basic at basic)
  unfolding meaning
  at-Basic at basic = ap (fold-TypeTree Meaning (meaning_step names inside)) (sym (t.rolls-Basic at basic)) ∙ fold-roll-TypeTree Meaning (meaning_step names inside) (TypeTree-F.Basic at basic)

  at-Named : (at : Place) (name : ℕ) (xs : List TypeTree) → meaning names inside (t.Named at name xs) ≡ meaning_step names inside (TypeTree-F.Named at name (map (meaning names inside) xs))
  unfolding meaning
  at-Named at name xs = ap (fold-TypeTree Meaning (meaning_step names inside)) (sym (t.rolls-Named at name xs)) ∙ fold-roll-TypeTree Meaning (meaning_step names inside) (TypeTree-F.Named at name xs)

  at-Tuple : (at : Place) (xs : List TypeTree) → meaning names inside (t.Tuple at xs) ≡ meaning_step names inside (TypeTree-F.Tuple at (map (meaning names inside) xs))
  unfolding meaning
  at-Tuple at xs = ap (fold-TypeTree Meaning (meaning_step names inside)) (sym (t.rolls-Tuple at xs)) ∙ fold-roll-TypeTree Meaning (meaning_step names inside) (TypeTree-F.Tuple at xs)

  at-Chan : (at : Place) (x : TypeTree) (bound : Option Bound) → meaning names inside (t.Chan at x bound) ≡ meaning_step names inside (TypeTree-F.Chan at (meaning names inside x) bound)
  unfolding meaning
  at-Chan at x bound = ap (fold-TypeTree Meaning (meaning_step names inside)) (sym (t.rolls-Chan at x bound)) ∙ fold-roll-TypeTree Meaning (meaning_step names inside) (TypeTree-F.Chan at x bound)

  at-Pointer : (at : Place) (x : TypeTree) → meaning names inside (t.Pointer at x) ≡ meaning_step names inside (TypeTree-F.Pointer at (meaning names inside x))
  unfolding meaning
  at-Pointer at x = ap (fold-TypeTree Meaning (meaning_step names inside)) (sym (t.rolls-Pointer at x)) ∙ fold-roll-TypeTree Meaning (meaning_step names inside) (TypeTree-F.Pointer at x)

  at-Array : (at : Place) (bound : Bound) (x : TypeTree) → meaning names inside (t.Array at bound x) ≡ meaning_step names inside (TypeTree-F.Array at bound (meaning names inside x))
  unfolding meaning
  at-Array at bound x = ap (fold-TypeTree Meaning (meaning_step names inside)) (sym (t.rolls-Array at bound x)) ∙ fold-roll-TypeTree Meaning (meaning_step names inside) (TypeTree-F.Array at bound x)

  pub type_of-Basic : (at : Place) (basic : BasicType) → type_of names inside (t.Basic at basic) ≡ Some (ty.Basic basic)
  type_of-Basic at basic = ap (λ m. m.type) (at-Basic at basic)

  pub type_of-Named : (at : Place) (name : ℕ) (xs : List TypeTree) → type_of names inside (t.Named at name xs) ≡ type_named names inside name (map (type_of names inside) xs)
  type_of-Named at name xs = ap (λ m. m.type) (at-Named at name xs) ∙ ap (type_named names inside name) (types_in-map xs)

  pub type_of-Tuple : (at : Place) (xs : List TypeTree) → type_of names inside (t.Tuple at xs) ≡ option_map ty.Tuple (all_of (map (type_of names inside) xs))
  type_of-Tuple at xs = ap (λ m. m.type) (at-Tuple at xs) ∙ ap (λ l. option_map ty.Tuple (all_of l)) (types_in-map xs)

  pub type_of-Chan : (at : Place) (x : TypeTree) (bound : Option Bound) → type_of names inside (t.Chan at x bound) ≡ chan_type (type_of names inside x) (capacity names at bound)
  type_of-Chan at x bound = ap (λ m. m.type) (at-Chan at x bound)

  pub type_of-Pointer : (at : Place) (x : TypeTree) → type_of names inside (t.Pointer at x) ≡ option_map ty.Pointer (type_of names inside x)
  type_of-Pointer at x = ap (λ m. m.type) (at-Pointer at x)

  pub type_of-Array : (at : Place) (bound : Bound) (x : TypeTree) → type_of names inside (t.Array at bound x) ≡ array_type (type_of names inside x) (bound_number names.constants.list bound at)
  type_of-Array at bound x = ap (λ m. m.type) (at-Array at bound x)

  pub instances_in-Basic : (at : Place) (basic : BasicType) → instances_in names inside (t.Basic at basic) ≡ []
  instances_in-Basic at basic = ap (λ m. m.named) (at-Basic at basic)

  pub instances_in-Named : (at : Place) (name : ℕ) (xs : List TypeTree) → instances_in names inside (t.Named at name xs) ≡ option_to_list (named_by names inside name (map (type_of names inside) xs)) ++ flat_map (instances_in names inside) xs
  instances_in-Named at name xs = ap (λ m. m.named) (at-Named at name xs) ∙ ap (λ l. option_to_list (named_by names inside name l) ++ named_in (map (meaning names inside) xs)) (types_in-map xs) ∙ ap (λ l. option_to_list (named_by names inside name (map (type_of names inside) xs)) ++ l) (named_in-map xs)

  pub instances_in-Tuple : (at : Place) (xs : List TypeTree) → instances_in names inside (t.Tuple at xs) ≡ flat_map (instances_in names inside) xs
  instances_in-Tuple at xs = ap (λ m. m.named) (at-Tuple at xs) ∙ named_in-map xs

  pub instances_in-Chan : (at : Place) (x : TypeTree) (bound : Option Bound) → instances_in names inside (t.Chan at x bound) ≡ instances_in names inside x
  instances_in-Chan at x bound = ap (λ m. m.named) (at-Chan at x bound)

  pub instances_in-Pointer : (at : Place) (x : TypeTree) → instances_in names inside (t.Pointer at x) ≡ instances_in names inside x
  instances_in-Pointer at x = ap (λ m. m.named) (at-Pointer at x)

  pub instances_in-Array : (at : Place) (bound : Bound) (x : TypeTree) → instances_in names inside (t.Array at bound x) ≡ instances_in names inside x
  instances_in-Array at bound x = ap (λ m. m.named) (at-Array at bound x)

pub ruleset type_is = (type_of-Basic, type_of-Named, type_of-Tuple, type_of-Chan, type_of-Pointer, type_of-Array)

pub ruleset instances_are = (instances_in-Basic, instances_in-Named, instances_in-Tuple, instances_in-Chan, instances_in-Pointer, instances_in-Array)

-- ---- a list of types, from a place on

-- those so far, with all of the rest
abbrev pub with_rest : List ConcreteType → Option (List ConcreteType) → Option (List ConcreteType)
with_rest front rest = option_map (λ l. front ++ l) rest

pub with_rest-none : (rest : Option (List ConcreteType)) → with_rest [] rest ≡ rest
with_rest-none None = refl
with_rest-none (Some l) = refl

pub with_rest-more : (front : List ConcreteType) (x : ConcreteType) (rest : List (Option ConcreteType)) → with_rest front (all_of (Some x ∷ rest)) ≡ with_rest (front ++ x ∷ []) (all_of rest)
with_rest-more front x rest = elim (all_of rest) as (λ o. with_rest front (option_map (λ l. x ∷ l) o) ≡ with_rest (front ++ x ∷ []) o) [ None ↦ refl | Some l ↦ ap Some (sym (append_assoc front (x ∷ []) l)) ]

pub from_here : {A B : Type 0} (f : A → B) (xs : List A) (i : ℕ) (x : A) → i < length xs → x ≡ get_or xs i x → map f (drop i xs) ≡ f x ∷ map f (drop (i + 1) xs)
from_here f xs i x h e = rw (add-one) (ap (map f) (drop-cons xs i x h) ∙ ap (λ y. f y ∷ map f (drop (suc i) xs)) (sym e))

pub none_here : {A B : Type 0} (f : A → B) (xs : List A) (i : ℕ) → length xs ≤ i → map f (drop i xs) ≡ []
none_here f xs i h = ap (map f) (drop_all i xs h)

pub ruleset lists = (with_rest-none, with_rest-more, from_here, none_here, append-nil)
