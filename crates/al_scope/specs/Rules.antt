-- Typing rules 1 and 22, one predicate for each sentence. The other files say of which parts of a tree they are asked.
use Rattle.std.specs.Prelude.{ℕ, Bool, true, false, ◌&&◌, List, find, Option, Some, None, is_some}
use Rattle.al_base.specs.declared.place.Place.{Place}
use Rattle.al_tree.specs.declared.expression.Expr.{Expr}
use Rattle.al_tree.specs.declared.type_tree.Bound.{Bound, out-Bound, fold-Bound}
use Rattle.al_tree.specs.declared.type_tree.Bound.TheOpen.{Bound-F}
use Rattle.al_tree.specs.declared.constants.EnumConstant.{EnumConstant}
use Rattle.al_tree.specs.Constants.{latest_before, value_of}
use Rattle.al_scope.specs.declared.declaration.Declaration.{Declaration}

-- 1. A name that is used is declared before, and is in scope.
abbrev pub is_declared : Option Declaration → Bool
is_declared found = is_some found

-- an enum constant is there, and has a value
abbrev pub has_value : Option EnumConstant → Bool
has_value None = false
has_value (Some c) = is_some c.value

abbrev pub Test : Type 0
Test = List EnumConstant → Place → Bool

abbrev pub bound_step : Bound-F Test → Test
bound_step (Bound-F.Number place n) constants at = true
bound_step (Bound-F.Name place name) constants at = has_value (latest_before constants name at)
bound_step (Bound-F.Binary place o a b) constants at = a constants at && b constants at

-- 22. A bound is constant: made of integers and enum constants. A name in a bound is that of the latest earlier enum
-- constant of that name, whatever else has the name.
unfoldable pub is_constant_bound : Bound → Test
is_constant_bound = fold-Bound Test bound_step

abbrev pub place_at : Bound-F Bound → Place
place_at (Bound-F.Number at n) = at
place_at (Bound-F.Name at name) = at
place_at (Bound-F.Binary at o a b) = at

-- where a bound begins
unfoldable pub bound_place : Bound → Place
bound_place b = place_at (out-Bound b)

-- 22. An enum value is constant: what the text gives for a value of an enum constant makes one.
abbrev pub is_constant_value : Option Expr → Option EnumConstant → Bool
is_constant_value None c = true
is_constant_value (Some e) c = has_value c
