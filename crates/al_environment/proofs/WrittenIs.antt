-- What written types are, for each kind.
use Rattle.std.proofs.Common.{◌≡◌, ℕ, suc, ◌+◌, ◌<◌, ◌≤◌, List, [], ◌∷◌, ◌++◌, map, length, get_or, drop, Option, Some, None, option_map, refl, ap, ◌∙◌, sym, append_assoc, drop-cons, add-one}
use Rattle.std.proofs.lemmas.List.{drop_all, append-nil}
use Rattle.al_base.specs.declared.place.Place.{Place}
use Rattle.al_tree.specs.declared.type_tree.BasicType.{BasicType}
use Rattle.al_tree.specs.declared.type_tree.Bound.{Bound}
use Rattle.al_tree.specs.declared.type_tree.TypeTree.{TypeTree, fold-TypeTree, fold-roll-TypeTree}
use Rattle.al_tree.specs.declared.type_tree.TypeTree.TheVariants as t
use Rattle.al_tree.specs.declared.type_tree.TypeTree.TheOpen.{TypeTree-F}
use Rattle.al_tree.specs.Constants.{bound_number}
use Rattle.al_typed.specs.declared.ty.Ty.{Ty}
use Rattle.al_typed.specs.declared.ty.Ty.TheVariants as ty
use Rattle.al_environment.specs.declared.environment.Environment.{Environment}
use Rattle.al_environment.specs.declared.environment.Here.{Here}
use Rattle.al_environment.specs.Written.{basic_type, written_step, written, type_named, all_of, chan_type, array_type, capacity}

module _ (env : Environment) (here : Here) where
  pub written-Basic : (at : Place) (basic : BasicType) → written env here (t.Basic at basic) ≡ Some (basic_type basic)
  unfolding written
  written-Basic at basic = ap (fold-TypeTree (Option Ty) (written_step env here)) (sym (t.rolls-Basic at basic)) ∙ fold-roll-TypeTree (Option Ty) (written_step env here) (TypeTree-F.Basic at basic)

  pub written-Named : (at : Place) (name : ℕ) (xs : List TypeTree) → written env here (t.Named at name xs) ≡ type_named env here name (map (written env here) xs)
  unfolding written
  written-Named at name xs = ap (fold-TypeTree (Option Ty) (written_step env here)) (sym (t.rolls-Named at name xs)) ∙ fold-roll-TypeTree (Option Ty) (written_step env here) (TypeTree-F.Named at name xs)

  pub written-Tuple : (at : Place) (xs : List TypeTree) → written env here (t.Tuple at xs) ≡ option_map ty.Tuple (all_of (map (written env here) xs))
  unfolding written
  written-Tuple at xs = ap (fold-TypeTree (Option Ty) (written_step env here)) (sym (t.rolls-Tuple at xs)) ∙ fold-roll-TypeTree (Option Ty) (written_step env here) (TypeTree-F.Tuple at xs)

  pub written-Chan : (at : Place) (x : TypeTree) (bound : Option Bound) → written env here (t.Chan at x bound) ≡ chan_type (written env here x) (capacity env at bound)
  unfolding written
  written-Chan at x bound = ap (fold-TypeTree (Option Ty) (written_step env here)) (sym (t.rolls-Chan at x bound)) ∙ fold-roll-TypeTree (Option Ty) (written_step env here) (TypeTree-F.Chan at x bound)

  pub written-Pointer : (at : Place) (x : TypeTree) → written env here (t.Pointer at x) ≡ option_map ty.Pointer (written env here x)
  unfolding written
  written-Pointer at x = ap (fold-TypeTree (Option Ty) (written_step env here)) (sym (t.rolls-Pointer at x)) ∙ fold-roll-TypeTree (Option Ty) (written_step env here) (TypeTree-F.Pointer at x)

  pub written-Array : (at : Place) (bound : Bound) (x : TypeTree) → written env here (t.Array at bound x) ≡ array_type (written env here x) (bound_number env.scopes.constants.list bound at)
  unfolding written
  written-Array at bound x = ap (fold-TypeTree (Option Ty) (written_step env here)) (sym (t.rolls-Array at bound x)) ∙ fold-roll-TypeTree (Option Ty) (written_step env here) (TypeTree-F.Array at bound x)

pub ruleset written_is = (written-Basic, written-Named, written-Tuple, written-Chan, written-Pointer, written-Array)

-- ---- a list of types, from a place on

-- those so far, with all of the rest
abbrev pub with_rest : List Ty → Option (List Ty) → Option (List Ty)
with_rest front rest = option_map (λ l. front ++ l) rest

pub with_rest-none : (rest : Option (List Ty)) → with_rest [] rest ≡ rest
with_rest-none None = refl
with_rest-none (Some l) = refl

pub with_rest-more : (front : List Ty) (x : Ty) (rest : List (Option Ty)) → with_rest front (all_of (Some x ∷ rest)) ≡ with_rest (front ++ x ∷ []) (all_of rest)
with_rest-more front x rest = elim (all_of rest) as (λ o. with_rest front (option_map (λ l. x ∷ l) o) ≡ with_rest (front ++ x ∷ []) o) [ None ↦ refl | Some l ↦ ap Some (sym (append_assoc front (x ∷ []) l)) ]

pub from_here : {A B : Type 0} (f : A → B) (xs : List A) (i : ℕ) (x : A) → i < length xs → x ≡ get_or xs i x → map f (drop i xs) ≡ f x ∷ map f (drop (i + 1) xs)
from_here f xs i x h e = rw (add-one) (ap (map f) (drop-cons xs i x h) ∙ ap (λ y. f y ∷ map f (drop (suc i) xs)) (sym e))

pub none_here : {A B : Type 0} (f : A → B) (xs : List A) (i : ℕ) → length xs ≤ i → map f (drop i xs) ≡ []
none_here f xs i h = ap (map f) (drop_all i xs h)

pub ruleset lists = (with_rest-none, with_rest-more, from_here, none_here, append-nil)
