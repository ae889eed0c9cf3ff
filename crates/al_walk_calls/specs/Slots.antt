-- The words that functions take on a task's stack, as a table.
use Rattle.std.specs.Prelude.{ℕ, List, map, slice_get, unwrap_or}
use Rattle.al_typed.specs.declared.program.Program.{Program}
use Rattle.al_typed.specs.Capped.{capped}
use Rattle.al_typed.specs.Measures.{function_slots}
use Rattle.al_control.specs.declared.control.Frame.{Frame}

-- of each function; a number that is greater than 2^64 - 1 counts as that
abbrev pub slots_in : Program → List ℕ
slots_in p = map (λ f. capped (function_slots p f)) p.functions

-- of the function of a number, 0 where there is none
abbrev pub slot_at : List ℕ → ℕ → ℕ
slot_at slots number = unwrap_or (slice_get slots number) 0

abbrev pub slot_of : List ℕ → Frame → ℕ
slot_of slots f = slot_at slots f.function
