-- The stores of parameters, one at a time.
use Rattle.std.specs.Prelude.{ℕ, ◌+◌, if◌then◌else◌, List, [], ◌∷◌, ◌++◌, map, Option, Some}
use Rattle.al_typed.specs.declared.ty.Ty.{Ty}
use Rattle.al_typed.specs.declared.program.Function.{Function as FunctionRow}
use Rattle.al_typed.specs.declared.program.Local.{Local as LocalRow}
use Rattle.al_typed.specs.declared.program.Program.{Program}
use Rattle.al_typed.specs.Layout.{in_order, layout}
use Rattle.al_ir.specs.declared.ir.Operation.{Operation}
use Rattle.al_lower_code.specs.Homes.{Spot, local_home, block_home, offset_in}
use Rattle.al_lower_code.specs.Moving.{layout_number, store_by}
use Rattle.al_lower_code.specs.Functions.{is_wide_parameter, stores_parameter}

-- the size of a shared block of these types
abbrev pub size_in_order : Program → List Ty → ℕ
size_in_order p types = (in_order (map (layout p.aggregates) types)).size

-- of a parameter, where the next one with a layout of its own has this one
abbrev pub layout_of : Spot → (next : ℕ) → LocalRow → Option ℕ
layout_of s next l = if is_wide_parameter s.program l then Some next else layout_number s l.ty

abbrev pub stores_by : Spot → (number next : ℕ) → LocalRow → List Operation
stores_by s number next l =
    if l.is_shared
    then store_by s (layout_of s next l) l.ty (block_home s.program s.function) (offset_in s.program s.function number) (local_home s.program s.function number)
    else []

-- of all of these, the first of which has that number
abbrev pub stores_all : Spot → FunctionRow → (number : ℕ) → List LocalRow → List Operation
stores_all s f number [] = []
stores_all s f number (l ∷ ls) = stores_parameter s f number l ++ stores_all s f (number + 1) ls
