-- What a function is given and gives, and what the operations of a program have of it.
use Rattle.std.specs.Prelude.{◌≡◌, ℕ, true, false, List, Option, Some, None}
use Rattle.al_typed.specs.declared.ty.Ty.{Ty}
use Rattle.al_typed.specs.declared.program.Program.{Program}
use Rattle.al_typed.specs.Types.{is_void}
use Rattle.al_meaning.specs.Places.{function_at}
use Rattle.al_meaning.specs.Here.{units_in}
use Rattle.al_meaning.specs.Calls.{slots_of, line_of_name}
use Rattle.al_ir.specs.declared.ir.Ir.{Ir}
use Rattle.al_ir.specs.Control.{stack_of, line_of}
use Rattle.al_ir.specs.Control as operations
use Rattle.al_lowered.specs.Rules.{AreOf}

-- nothing where the type is void, else a value of it
abbrev pub GivenOf : Program → Ty → Option (List ℕ) → Type 0
GivenOf p t None = is_void t ≡ true
GivenOf p t (Some v) = (is_void t ≡ false) × AreOf (units_in p t) v

-- each function takes as many words on the stack, and has its name in the same line
pub record HasFrames (p : Program) (ir : Ir) : Type 0 where
  pub stack : (number : ℕ) → stack_of (operations.function_at ir number) ≡ slots_of p (function_at p number)
  pub line : (number : ℕ) → line_of (operations.function_at ir number) ≡ line_of_name (function_at p number)
