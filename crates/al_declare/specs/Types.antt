-- Bounds in types, each of which is asked rule 17.
use Rattle.std.specs.Prelude.{List, fold, Option, None, Some}
use Rattle.al_base.specs.declared.place.Place.{Place}
use Rattle.al_declare.specs.declared.text.Text.{Text}
use Rattle.al_tree.specs.declared.type_tree.Bound.{Bound}
use Rattle.al_tree.specs.declared.type_tree.TypeTree.{TypeTree, fold-TypeTree}
use Rattle.al_tree.specs.declared.type_tree.TypeTree.TheOpen.{TypeTree-F}
use Rattle.al_tree.specs.declared.type_tree.Dcl.{Dcl}
use Rattle.al_rules.specs.Outcome.{ask}
use Rattle.al_declare.specs.declared.asked.Asked.{Asked}
use Rattle.al_tree.specs.Constants.{bound_number}
use Rattle.al_declare.specs.Rules.{rule_17_bound, rule_17_capacity}
use Rattle.al_declare.specs.Asking.{asked}

-- what a part of a text does to what is declared and asked
abbrev pub Way : Type 0
Way = Text → Asked → Asked

-- parts one after the other
abbrev pub each : {A : Type 0} → (A → Way) → List A → Way
each f xs text w = fold (λ u x. f x text u) w xs

abbrev pub all : List Way → Way
all = each (λ a. a)

-- a part that may be missing
abbrev pub optional : {A : Type 0} → (A → Way) → Option A → Way
optional f None text w = w
optional f (Some x) text w = f x text w

abbrev pub if_there : Option Way → Way
if_there None text w = w
if_there (Some a) text w = a text w

-- the bound of an array in what stands at a place
unfoldable pub bound : Place → Bound → Way
bound at b text w = asked (ask 17 at (rule_17_bound (bound_number text.constants.list b at))) w

-- a channel's capacity
unfoldable pub capacity : Place → Bound → Way
capacity at b text w = asked (ask 17 at (rule_17_capacity (bound_number text.constants.list b at))) w

abbrev pub type_step : TypeTree-F Way → Way
type_step (TypeTree-F.Basic at basic) = λ text w. w
type_step (TypeTree-F.Named at name arguments) = all arguments
type_step (TypeTree-F.Tuple at parts) = all parts
type_step (TypeTree-F.Chan at element size) = λ text w. optional (capacity at) size text (element text w)
type_step (TypeTree-F.Pointer at to) = to
type_step (TypeTree-F.Array at size element) = λ text w. bound at size text (element text w)

unfoldable pub type_tree : TypeTree → Way
type_tree = fold-TypeTree Way type_step

-- the bounds of a declarator
abbrev pub dcl_bounds : Dcl → Way
dcl_bounds d = each (bound d.at) d.bounds
