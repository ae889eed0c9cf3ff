-- Adts and their functions by their names.
use Rattle.std.specs.Prelude.{ℕ, ◌==◌, Bool, ◌&&◌, List, find, Option}
use Rattle.al_member_names.specs.declared.function.OwnFunction.{OwnFunction}
use Rattle.al_adt_functions.specs.Bodies.{same_number}
use Rattle.al_adt_functions.specs.declared.owned.AdtFunctions.{AdtFunctions}

abbrev pub is_adt_of : (adt : ℕ) → (instance : Option ℕ) → AdtFunctions → Bool
is_adt_of adt instance a = a.owned.name == adt && same_number a.owned.instance instance

unfoldable pub adt_of : List AdtFunctions → (adt : ℕ) → (instance : Option ℕ) → Option AdtFunctions
adt_of list adt instance = find (is_adt_of adt instance) list

abbrev pub is_named : ℕ → OwnFunction → Bool
is_named name f = f.function.name == name

unfoldable pub function_of : AdtFunctions → ℕ → Option OwnFunction
function_of a name = find (is_named name) a.functions
