-- Bounds in types, each of which is asked rule 22.
use Rattle.std.specs.Prelude.{List, fold, Option, None, Some}
use Rattle.al_base.specs.declared.place.Place.{Place}
use Rattle.al_tree.specs.declared.constants.EnumConstant.{EnumConstant}
use Rattle.al_tree.specs.declared.type_tree.Bound.{Bound}
use Rattle.al_tree.specs.declared.type_tree.TypeTree.{TypeTree, fold-TypeTree}
use Rattle.al_tree.specs.declared.type_tree.TypeTree.TheOpen.{TypeTree-F}
use Rattle.al_tree.specs.declared.type_tree.Dcl.{Dcl}
use Rattle.al_rules.specs.Outcome.{ask}
use Rattle.al_scope.specs.declared.walk.Walk.{Walk}
use Rattle.al_scope.specs.Rules.{is_constant_bound, bound_place}
use Rattle.al_scope.specs.Names.{asked}

-- what a part of a text does to what is known, by the enum constants of the text
abbrev pub Way : Type 0
Way = List EnumConstant → Walk → Walk

-- parts one after the other
abbrev pub each : {A : Type 0} → (A → Way) → List A → Way
each f xs constants w = fold (λ u x. f x constants u) w xs

abbrev pub all : List Way → Way
all = each (λ a. a)

-- a part that may be missing
abbrev pub optional : {A : Type 0} → (A → Way) → Option A → Way
optional f None constants w = w
optional f (Some x) constants w = f x constants w

abbrev pub if_there : Option Way → Way
if_there None constants w = w
if_there (Some a) constants w = a constants w

unfoldable pub bound : Bound → Way
bound b constants w = asked (ask 22 (bound_place b) (is_constant_bound b constants (bound_place b))) w

abbrev pub type_step : TypeTree-F Way → Way
type_step (TypeTree-F.Basic at basic) = λ constants w. w
type_step (TypeTree-F.Named at name arguments) = all arguments
type_step (TypeTree-F.Tuple at parts) = all parts
type_step (TypeTree-F.Chan at element capacity) = λ constants w. optional bound capacity constants (element constants w)
type_step (TypeTree-F.Pointer at to) = to
type_step (TypeTree-F.Array at size element) = λ constants w. bound size constants (element constants w)

unfoldable pub type_tree : TypeTree → Way
type_tree = fold-TypeTree Way type_step

-- the bounds of a declarator
abbrev pub dcl_bounds : Dcl → Way
dcl_bounds d = each bound d.bounds
