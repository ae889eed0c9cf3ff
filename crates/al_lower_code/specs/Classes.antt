-- The functions that pointers of one type may name. A class has the number of the first function of its type, and a type that no
-- function has the number behind them all.
use Rattle.std.specs.Prelude.{ℕ, ◌+◌, ◌==◌, if◌then◌else◌, List, [], ◌∷◌}
use Rattle.al_typed.specs.declared.ty.Ty.{Ty}
use Rattle.al_typed.specs.declared.program.Function.{Function as FunctionRow}
use Rattle.al_typed.specs.declared.program.Program.{Program}
use Rattle.al_typed.specs.Typed.{function_type}
use Rattle.al_meaning.specs.Calls.{has_type}

-- of these functions, the first of which has that number
abbrev pub first_of_type : Ty → (number : ℕ) → List FunctionRow → ℕ
first_of_type t number [] = number
first_of_type t number (f ∷ fs) = if has_type t f.around f then number else first_of_type t (number + 1) fs

abbrev pub all_of_type : Ty → (number : ℕ) → List FunctionRow → List ℕ
all_of_type t number [] = []
all_of_type t number (f ∷ fs) = if has_type t f.around f then number ∷ all_of_type t (number + 1) fs else all_of_type t (number + 1) fs

abbrev pub class_number : Program → Ty → ℕ
class_number p t = first_of_type t 0 p.functions

-- a function that is not the first of its type has no class of its own
abbrev pub class_at : Program → (number : ℕ) → FunctionRow → List ℕ
class_at p number f = if class_number p (function_type f) == number then all_of_type (function_type f) 0 p.functions else []

abbrev pub classes_from : Program → (number : ℕ) → List FunctionRow → List (List ℕ)
classes_from p number [] = [] ∷ []
classes_from p number (f ∷ fs) = class_at p number f ∷ classes_from p (number + 1) fs

abbrev pub classes : Program → List (List ℕ)
classes p = classes_from p 0 p.functions
