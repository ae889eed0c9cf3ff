-- The units of values of several words, as they stand in a program of operations.
use Rattle.std.specs.Prelude.{ℕ, zero, suc, ◌+◌, List, [], ◌∷◌, ◌++◌, Option, Some, None, slice_get}
use Rattle.al_typed.specs.declared.layout.Unit.{Unit}
use Rattle.al_ir.specs.declared.ir.Run.{Run}
use Rattle.al_ir.specs.declared.ir.Ir.{Ir}

-- so many units of one size, one behind the other
abbrev pub units_from : (at size count : ℕ) → List Unit
units_from at size zero = []
units_from at size (suc n) = record { at = at; size = size } ∷ units_from (at + size) size n

abbrev pub units_in : List Run → List Unit
units_in [] = []
units_in (r ∷ runs) = units_from r.at r.size r.count ++ units_in runs

abbrev pub units_or_none : Option (List Run) → List Unit
units_or_none (Some runs) = units_in runs
units_or_none None = []

-- the units of the layout of that number
abbrev pub units_at : Ir → ℕ → List Unit
units_at ir number = units_or_none (slice_get ir.layouts number)
