-- What the sizes of bounds and types of each kind are.
use Rattle.std.proofs.Common.{◌≡◌, ℕ, List, [], ◌∷◌, map, fold, Option, refl, ap, ◌∙◌, sym}
use Rattle.al_base.specs.declared.place.Place.{Place}
use Rattle.al_tree.specs.declared.type_tree.BasicType.{BasicType}
use Rattle.al_tree.specs.declared.type_tree.BoundOp.{BoundOp}
use Rattle.al_tree.specs.declared.type_tree.Bound.{Bound, fold-Bound, fold-roll-Bound}
use Rattle.al_tree.specs.declared.type_tree.Bound.TheVariants as n
use Rattle.al_tree.specs.declared.type_tree.Bound.TheOpen.{Bound-F}
use Rattle.al_tree.specs.declared.type_tree.TypeTree.{TypeTree, fold-TypeTree, fold-roll-TypeTree}
use Rattle.al_tree.specs.declared.type_tree.TypeTree.TheVariants as t
use Rattle.al_tree.specs.declared.type_tree.TypeTree.TheOpen.{TypeTree-F}
use Rattle.al_type_limits.specs.declared.size.Size.{Size}
use Rattle.al_type_limits.specs.Sizes.{nothing, one, beside, above}
use Rattle.al_type_limits.specs.Types.{Names, bound_step, bound_size, array, holder, type_step, type_size, with_type, together, with_arguments}

pub bound_size-Number : (at : Place) (value : ℕ) → bound_size (n.Number at value) ≡ one
unfolding bound_size
bound_size-Number at value = ap (fold-Bound Size bound_step) (sym (n.rolls-Number at value)) ∙ fold-roll-Bound Size bound_step (Bound-F.Number at value)

pub bound_size-Name : (at : Place) (name : ℕ) → bound_size (n.Name at name) ≡ one
unfolding bound_size
bound_size-Name at name = ap (fold-Bound Size bound_step) (sym (n.rolls-Name at name)) ∙ fold-roll-Bound Size bound_step (Bound-F.Name at name)

pub bound_size-Binary : (at : Place) (op : BoundOp) (a : Bound) (b : Bound) → bound_size (n.Binary at op a b) ≡ above 1 (beside (bound_size a) (bound_size b))
unfolding bound_size
bound_size-Binary at op a b = ap (fold-Bound Size bound_step) (sym (n.rolls-Binary at op a b)) ∙ fold-roll-Bound Size bound_step (Bound-F.Binary at op a b)

pub ruleset bound_is = (bound_size-Number, bound_size-Name, bound_size-Binary)

module _ (names : Names) where
  abbrev T : TypeTree → Size
  T = type_size names

  together_from : (sum : Size) (xs : List TypeTree) → fold beside sum (map T xs) ≡ fold (with_type names) sum xs
  together_from sum [] = refl
  together_from sum (x ∷ xs) = together_from (beside sum (T x)) xs

  pub type_size-Basic : (at : Place) (basic : BasicType) → T (t.Basic at basic) ≡ one
  unfolding type_size
  type_size-Basic at basic = ap (fold-TypeTree Size (type_step names)) (sym (t.rolls-Basic at basic)) ∙ fold-roll-TypeTree Size (type_step names) (TypeTree-F.Basic at basic)

  pub type_size-Named : (at : Place) (name : ℕ) (xs : List TypeTree) → T (t.Named at name xs) ≡ with_arguments names name xs
  unfolding type_size
  type_size-Named at name [] = ap (fold-TypeTree Size (type_step names)) (sym (t.rolls-Named at name [])) ∙ fold-roll-TypeTree Size (type_step names) (TypeTree-F.Named at name [])
  type_size-Named at name (x ∷ xs) = ap (fold-TypeTree Size (type_step names)) (sym (t.rolls-Named at name (x ∷ xs))) ∙ fold-roll-TypeTree Size (type_step names) (TypeTree-F.Named at name (x ∷ xs)) ∙ ap (above 1) (together_from nothing (x ∷ xs))

  pub type_size-Tuple : (at : Place) (xs : List TypeTree) → T (t.Tuple at xs) ≡ above 1 (together names xs)
  unfolding type_size
  type_size-Tuple at xs = ap (fold-TypeTree Size (type_step names)) (sym (t.rolls-Tuple at xs)) ∙ fold-roll-TypeTree Size (type_step names) (TypeTree-F.Tuple at xs) ∙ ap (above 1) (together_from nothing xs)

  pub type_size-Chan : (at : Place) (x : TypeTree) (capacity : Option Bound) → T (t.Chan at x capacity) ≡ holder (T x) capacity
  unfolding type_size
  type_size-Chan at x capacity = ap (fold-TypeTree Size (type_step names)) (sym (t.rolls-Chan at x capacity)) ∙ fold-roll-TypeTree Size (type_step names) (TypeTree-F.Chan at x capacity)

  pub type_size-Pointer : (at : Place) (x : TypeTree) → T (t.Pointer at x) ≡ above 1 (T x)
  unfolding type_size
  type_size-Pointer at x = ap (fold-TypeTree Size (type_step names)) (sym (t.rolls-Pointer at x)) ∙ fold-roll-TypeTree Size (type_step names) (TypeTree-F.Pointer at x)

  pub type_size-Array : (at : Place) (bound : Bound) (x : TypeTree) → T (t.Array at bound x) ≡ array (T x) bound
  unfolding type_size
  type_size-Array at bound x = ap (fold-TypeTree Size (type_step names)) (sym (t.rolls-Array at bound x)) ∙ fold-roll-TypeTree Size (type_step names) (TypeTree-F.Array at bound x)

pub ruleset type_is = (type_size-Basic, type_size-Named, type_size-Tuple, type_size-Chan, type_size-Pointer, type_size-Array)
