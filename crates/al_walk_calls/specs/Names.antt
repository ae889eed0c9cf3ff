-- Functions of a type.
use Rattle.std.specs.Prelude.{ℕ, if◌then◌else◌, Option, Some, None}
use Rattle.al_typed.specs.declared.program.Function.{Function}
use Rattle.al_typed.specs.declared.ty.Ty.{Ty}
use Rattle.al_meaning.specs.Calls.{has_type}

-- the number of a function, where it has this type
abbrev pub of_type : Ty → ℕ → Option Function → Option ℕ
of_type t number None = None
of_type t number (Some f) = if has_type t f.around f then Some number else None
