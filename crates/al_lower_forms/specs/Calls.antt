-- Calls whose words stand one behind the other.
use Rattle.std.specs.Prelude.{ℕ, ◌+◌, List, [], ◌++◌, Option, Some, None}
use Rattle.al_typed.specs.declared.ty.Ty.{Ty}
use Rattle.al_ir.specs.declared.ir.Operation.{Operation}
use Rattle.al_ir.specs.declared.op.Op.TheVariants.{Invoke, InvokePointer}
use Rattle.al_lower_code.specs.Homes.{Spot, words, here}
use Rattle.al_lower_code.specs.Moving.{results}

-- the words that a call left, where they are wanted
abbrev pub left : Spot → Ty → (dest : Option ℕ) → List Operation
left s t (Some dest) = results s.line dest 0 (words s t)
left s t None = []

-- of a function, whose words stand from `to` on
abbrev pub called : Spot → Ty → (function : ℕ) → (dest : Option ℕ) → (to : ℕ) → List Operation
called s t function (Some dest) to = here s (Invoke function to) ++ results s.line dest 0 (words s t)
called s t function None to = here s (Invoke function to)

-- of a function of a class that a pointer in the slot `to` names, whose words stand behind it
abbrev pub called_pointer : Spot → (class : ℕ) → Ty → (dest : Option ℕ) → (to : ℕ) → List Operation
called_pointer s class t dest to = here s (InvokePointer class to (to + 1)) ++ left s t dest
