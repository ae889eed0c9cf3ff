-- A program of operations that is being built: a function at a time, whose operations are added in a line of the text.
use Rattle.std.specs.Prelude.{ℕ, nat_lt, if◌then◌else◌, List, [], ◌∷◌, ◌++◌, map, length, slice_set}
use Rattle.al_typed.specs.declared.program.Function.{Function as TypedFunction}
use Rattle.al_typed.specs.declared.program.Program.{Program}
use Rattle.al_ir.specs.declared.ir.Function.{Function}
use Rattle.al_ir.specs.declared.ir.Operation.{Operation}
use Rattle.al_ir.specs.declared.ir.Run.{Run}
use Rattle.al_ir.specs.declared.ir.Global.{Global}
use Rattle.al_ir.specs.declared.ir.Ir.{Ir}
use Rattle.al_ir.specs.declared.op.Op.{Op}
use Rattle.al_ir.specs.Control.{function_at, line_of}

-- the program as it was before the function at work, the number of that function, what it is so far, and the line at hand
pub record Building : Type 0 where
  pub ir : Ir
  pub number : ℕ
  pub work : Function
  pub line : ℕ

-- a function without operations
abbrev pub empty_function : ℕ → Function
empty_function line = record { line = line; arguments = 0; stack = 0; slots = 0; code = [] }

abbrev pub row_of : TypedFunction → Function
row_of f = empty_function f.line

abbrev pub rows_of : Program → List Function
rows_of p = map row_of p.functions

-- the rows of a program's functions, and nothing else
abbrev pub empty_program : Program → Ir
empty_program p = record { functions = rows_of p; classes = []; layouts = []; globals = []; privates = 0; main = p.main }

-- with a function in its row, if it has one
abbrev pub placed : ℕ → Function → List Function → List Function
placed number f functions = if nat_lt number (length functions) then slice_set functions number f else functions

-- the whole program, with the function at work in its row
abbrev pub built : Building → Ir
built b = record b.ir { functions = placed b.number b.work b.ir.functions }

-- at work on another function, from its start
abbrev pub begun_on : ℕ → Building → Building
begun_on f b = let line = line_of (function_at b.ir f) in record { ir = built b; number = f; work = empty_function line; line = line }

abbrev pub with_frame : (arguments stack slots : ℕ) → Building → Building
with_frame arguments stack slots b =
    record b { work = record b.work { arguments = arguments; stack = stack; slots = slots } }

-- an operation in the line at hand
abbrev pub here : Building → Op → Operation
here b op = record { line = b.line; op = op }

abbrev pub with_operation : Op → Building → Building
with_operation op b = record b { work = record b.work { code = b.work.code ++ here b op ∷ [] } }

abbrev pub with_operation_at : ℕ → Op → Building → Building
with_operation_at at op b = record b { work = record b.work { code = slice_set b.work.code at (here b op) } }

abbrev pub with_layout : List Run → Building → Building
with_layout runs b = record b { ir = record b.ir { layouts = b.ir.layouts ++ runs ∷ [] } }

abbrev pub with_class : List ℕ → Building → Building
with_class functions b = record b { ir = record b.ir { classes = b.ir.classes ++ functions ∷ [] } }

abbrev pub with_global : Global → Building → Building
with_global g b = record b { ir = record b.ir { globals = b.ir.globals ++ g ∷ [] } }

abbrev pub with_privates : ℕ → Building → Building
with_privates words b = record b { ir = record b.ir { privates = words } }
