-- Programs of operations that print.
use Rattle.std.specs.Prelude.{ℕ, true, false, List, [], ◌∷◌}
use Rattle.al_base.specs.declared.arith.Op.TheVariants as arith
use Rattle.al_ir.specs.declared.ir.Operation.{Operation}
use Rattle.al_ir.specs.declared.ir.Function.{Function}
use Rattle.al_ir.specs.declared.ir.Ir.{Ir}
use Rattle.al_ir.specs.declared.op.Op.{Op}
use Rattle.al_ir.specs.declared.op.Op.TheVariants as op

-- an operation in a line
abbrev pub on : ℕ → Op → Operation
on line o = record { line = line; op = o }

-- a function of a line, with so many slots, some of them arguments
abbrev pub function : (line arguments slots : ℕ) → List Operation → Function
function line arguments slots code = record { line = line; arguments = arguments; stack = 32; slots = slots; code = code }

abbrev pub program : List Function → Ir
program functions = record { functions = functions; classes = []; layouts = []; globals = []; privates = 0; main = 0 }

-- ---- s = 0; for (i = 0; i < 5; i++) s = s + i; print s

abbrev pub sum : List Operation
sum =
    on 2 (op.Constant 0 0)
    ∷ on 3 (op.Constant 1 0)
    ∷ on 3 (op.Constant 2 5)
    ∷ on 3 (op.SkipUnless arith.Lt true 1 2 3)
    ∷ on 4 (op.Word arith.Add true 0 0 1)
    ∷ on 3 (op.WordBy arith.Add true 1 1 1)
    ∷ on 3 (op.Back 3)
    ∷ on 5 (op.PutDecimal true 0)
    ∷ on 5 (op.PutByte 10)
    ∷ on 5 op.Print
    ∷ on 6 (op.Leave 0)
    ∷ []

abbrev pub sums : Ir
sums = program (function 1 0 8 sum ∷ [])

-- ---- a call with two arguments, and its result

abbrev pub asks : List Operation
asks =
    on 2 (op.Constant 3 4)
    ∷ on 2 (op.Constant 4 9)
    ∷ on 2 (op.Invoke 1 3)
    ∷ on 2 (op.Result 0 0)
    ∷ on 3 (op.PutDecimal true 0)
    ∷ on 3 op.Print
    ∷ on 4 (op.Leave 0)
    ∷ []

abbrev pub answers : List Operation
answers =
    on 8 (op.Word arith.Sub true 0 0 1)
    ∷ on 8 (op.Leave 1)
    ∷ []

abbrev pub differs : Ir
differs = program (function 1 0 8 asks ∷ function 7 2 2 answers ∷ [])

-- ---- (2^32 + 5) % 7 in 64 bits, and then by 0

abbrev pub leaves : List Operation
leaves =
    on 2 (op.Constant 0 5)
    ∷ on 2 (op.Constant 1 1)
    ∷ on 2 (op.Constant 2 7)
    ∷ on 2 (op.Constant 3 0)
    ∷ on 3 (op.Long arith.Rem false 4 0 2)
    ∷ on 3 (op.PutLongDecimal false 4)
    ∷ on 3 op.Print
    ∷ on 4 (op.Constant 2 0)
    ∷ on 4 (op.Long arith.Rem false 4 0 2)
    ∷ on 5 (op.Leave 0)
    ∷ []

abbrev pub divides : Ir
divides = program (function 1 0 12 leaves ∷ [])
