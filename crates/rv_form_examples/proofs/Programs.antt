-- Programs written down in short.
use Rattle.std.proofs.Common.{ℕ, List, []}
use Rattle.al_ir.specs.declared.ir.Operation.{Operation}
use Rattle.al_ir.specs.declared.ir.Function.{Function}
use Rattle.al_ir.specs.declared.ir.Ir.{Ir}
use Rattle.al_ir.specs.declared.op.Op.{Op}
use Rattle.al_event.specs.declared.act.Act.{Act}
use Rattle.rv_form_examples.specs.Runs.{Said}

-- an operation in a line
abbrev pub on : ℕ → Op → Operation
on line o = record { line = line; op = o }

-- a function of a line, with so many slots, some of them arguments, and eight words besides
abbrev pub function : (line arguments stack slots : ℕ) → List Operation → Function
function line arguments stack slots code = record { line = line; arguments = arguments; stack = stack; slots = slots; code = code }

abbrev pub program : List Function → Ir
program functions = record { functions = functions; classes = []; layouts = []; globals = []; privates = 0; main = 0 }

abbrev pub says : ℕ → Act → Said
says line act = record { line = line; act = act }
