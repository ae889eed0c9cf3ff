-- What a type of each kind does.
use Rattle.std.proofs.Common.{◌≡◌, ℕ, List, Option, ap, ◌∙◌, sym}
use Rattle.al_base.specs.declared.place.Place.{Place}
use Rattle.al_declare.specs.declared.text.Text.{Text}
use Rattle.al_declare.specs.declared.asked.Asked.{Asked}
use Rattle.al_tree.specs.declared.type_tree.BasicType.{BasicType}
use Rattle.al_tree.specs.declared.type_tree.Bound.{Bound}
use Rattle.al_tree.specs.declared.type_tree.TypeTree.{TypeTree, fold-TypeTree, fold-roll-TypeTree}
use Rattle.al_tree.specs.declared.type_tree.TypeTree.TheVariants as n
use Rattle.al_tree.specs.declared.type_tree.TypeTree.TheOpen.{TypeTree-F}
use Rattle.al_declare.specs.Types.{Way, each, optional, bound, capacity, type_step, type_tree}
use Rattle.al_declare.proofs.Each.{each_map}

pub type_tree-Basic : (at : Place) (basic : BasicType) (c : Text) (w : Asked) → type_tree (n.Basic at basic) c w ≡ w
unfolding type_tree
type_tree-Basic at basic c w = ap (λ n. fold-TypeTree Way type_step n c w) (sym (n.rolls-Basic at basic)) ∙ ap (λ (a : Way). a c w) (fold-roll-TypeTree Way type_step (TypeTree-F.Basic at basic))

pub type_tree-Named : (at : Place) (name : ℕ) (arguments : List TypeTree) (c : Text) (w : Asked) → type_tree (n.Named at name arguments) c w ≡ each type_tree arguments c w
unfolding type_tree
type_tree-Named at name arguments c w = ap (λ n. fold-TypeTree Way type_step n c w) (sym (n.rolls-Named at name arguments)) ∙ ap (λ (a : Way). a c w) (fold-roll-TypeTree Way type_step (TypeTree-F.Named at name arguments)) ∙ each_map (λ a. a) type_tree arguments c w

pub type_tree-Tuple : (at : Place) (parts : List TypeTree) (c : Text) (w : Asked) → type_tree (n.Tuple at parts) c w ≡ each type_tree parts c w
unfolding type_tree
type_tree-Tuple at parts c w = ap (λ n. fold-TypeTree Way type_step n c w) (sym (n.rolls-Tuple at parts)) ∙ ap (λ (a : Way). a c w) (fold-roll-TypeTree Way type_step (TypeTree-F.Tuple at parts)) ∙ each_map (λ a. a) type_tree parts c w

pub type_tree-Chan : (at : Place) (element : TypeTree) (size : Option Bound) (c : Text) (w : Asked) → type_tree (n.Chan at element size) c w ≡ optional (capacity at) size c (type_tree element c w)
unfolding type_tree
type_tree-Chan at element size c w = ap (λ n. fold-TypeTree Way type_step n c w) (sym (n.rolls-Chan at element size)) ∙ ap (λ (a : Way). a c w) (fold-roll-TypeTree Way type_step (TypeTree-F.Chan at element size))

pub type_tree-Pointer : (at : Place) (to : TypeTree) (c : Text) (w : Asked) → type_tree (n.Pointer at to) c w ≡ type_tree to c w
unfolding type_tree
type_tree-Pointer at to c w = ap (λ n. fold-TypeTree Way type_step n c w) (sym (n.rolls-Pointer at to)) ∙ ap (λ (a : Way). a c w) (fold-roll-TypeTree Way type_step (TypeTree-F.Pointer at to))

pub type_tree-Array : (at : Place) (size : Bound) (element : TypeTree) (c : Text) (w : Asked) → type_tree (n.Array at size element) c w ≡ bound at size c (type_tree element c w)
unfolding type_tree
type_tree-Array at size element c w = ap (λ n. fold-TypeTree Way type_step n c w) (sym (n.rolls-Array at size element)) ∙ ap (λ (a : Way). a c w) (fold-roll-TypeTree Way type_step (TypeTree-F.Array at size element))

pub ruleset type_is = (type_tree-Basic, type_tree-Named, type_tree-Tuple, type_tree-Chan, type_tree-Pointer, type_tree-Array)
