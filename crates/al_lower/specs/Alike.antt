-- The functions of one type, by the number of the first of them, which is found once for each.
use Rattle.std.specs.Prelude.{◌≡◌, ℕ, ◌+◌, ◌==◌, Bool, false, if◌then◌else◌, List, [], ◌∷◌, length, take, Option, Some, None, slice_get}
use Rattle.al_typed.specs.declared.ty.Ty.{Ty}
use Rattle.al_typed.specs.declared.program.Function.{Function as FunctionRow}
use Rattle.al_typed.specs.declared.program.Program.{Program}
use Rattle.al_typed.specs.Typed.{function_type}
use Rattle.al_typed.specs.Alike.{are_alike}
use Rattle.al_meaning.specs.Calls.{has_type}
use Rattle.al_lower_code.specs.Classes.{class_number}

-- the class that a function is in. A branch of a par is in none, which is the number behind them all
abbrev pub class_of : Program → List ℕ → FunctionRow → ℕ
class_of p [] f = class_number p (function_type f)
class_of p (n ∷ around) f = length p.functions

abbrev pub own_class : Program → FunctionRow → ℕ
own_class p f = class_of p f.around f

-- the functions of a class, where the first of these, which are in those classes, has that number
abbrev pub numbers_of : (class number : ℕ) → List ℕ → List ℕ
numbers_of class number [] = []
numbers_of class number (c ∷ cs) = if c == class then number ∷ numbers_of class (number + 1) cs else numbers_of class (number + 1) cs

-- a function that is not the first of its class has no class of its own
abbrev pub numbers_at : List ℕ → (number class : ℕ) → List ℕ
numbers_at all number class = if class == number then numbers_of number 0 all else []

abbrev pub lists_from : List ℕ → (number : ℕ) → List ℕ → List (List ℕ)
lists_from all number [] = [] ∷ []
lists_from all number (c ∷ cs) = numbers_at all number c ∷ lists_from all (number + 1) cs

-- whether the function of that number has a type
abbrev pub is_typed : Ty → Option FunctionRow → Bool
is_typed t (Some f) = are_alike t (function_type f)
is_typed t None = false

-- the first of these numbers whose function has the type
abbrev pub first_among : List FunctionRow → Ty → List ℕ → Option ℕ
first_among fs t [] = None
first_among fs t (n ∷ ns) = if is_typed t (slice_get fs n) then Some n else first_among fs t ns

-- the first of these functions, the first of which has that number, that has a type
abbrev pub first_in : Ty → (number : ℕ) → List FunctionRow → Option ℕ
first_in t number [] = None
first_in t number (f ∷ fs) = if has_type t f.around f then Some number else first_in t (number + 1) fs

-- these numbers do for the first so many functions: among them is the first one of each type
pub record AreFirsts (fs : List FunctionRow) (count : ℕ) (firsts : List ℕ) : Type 0 where
  pub finds : (t : Ty) → first_among fs t firsts ≡ first_in t 0 (take count fs)
