-- Where shared locals and shared globals stand, one behind the other.
use Rattle.std.specs.Prelude.{ℕ, ◌+◌, List, map, filter, fold, slice_index}
use Rattle.al_typed.specs.declared.program.Aggregate.{Aggregate}
use Rattle.al_typed.specs.declared.program.Global.{Global}
use Rattle.al_typed.specs.declared.program.Local.{Local}
use Rattle.al_typed.specs.Layout.{Layout, layout, offsets_from, rounded, size_of}
use Rattle.al_typed.specs.WellTyped.{shared_types}
use Rattle.al_meaning.specs.Places.{behind, is_shared_global}

abbrev pub placed : ℕ → Layout → ℕ
placed at l = rounded at l.align + l.size

-- where the shared ones of these locals end, behind what ends at a place
abbrev pub end_of : List Aggregate → ℕ → List Local → ℕ
end_of rows at locals = fold placed at (map (layout rows) (shared_types locals))

-- where the first shared one of these locals stands, behind what ends at a place; 0 where none is shared
abbrev pub first_of : List Aggregate → ℕ → List Local → ℕ
first_of rows at locals = slice_index (offsets_from at (map (layout rows) (shared_types locals))) 0

-- the place behind the blocks of the shared ones of these globals
abbrev pub behind_all : List Aggregate → ℕ → List Global → ℕ
behind_all rows at globals = fold behind at (map (λ (g : Global). size_of rows g.ty) (filter is_shared_global globals))
