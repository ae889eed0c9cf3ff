-- The run of a program by its meaning, and that of what it is lowered to.
use Rattle.std.specs.Prelude.{ℕ, List, Option, option_map}
use Rattle.std.specs.List.{AllByRecursion}
use Rattle.al_event.specs.declared.entry.Entry.{Entry}
use Rattle.al_world.specs.Answers.{AreBytes}
use Rattle.al_world.specs.World.{Shared, World}
use Rattle.al_typed.specs.declared.program.Program.{Program}
use Rattle.al_meaning.specs.Meaning as meaning
use Rattle.al_ir.specs.Meaning as operations
use Rattle.al_lower_code.specs.Functions.{lowered}

-- what all can see after the entries of a schedule, in a region of so many bytes: none where an entry is not permitted
abbrev pub meant : Program → ℕ → List Entry → Option Shared
meant p region h = option_map (λ (w : World (meaning.source p)). w.shared) (meaning.run p region h)

abbrev pub made : Program → ℕ → List Entry → Option Shared
made p region h = option_map (λ (w : World (operations.tasks (lowered p))). w.shared) (operations.run (lowered p) region h)

-- the characters of its strings are bytes
abbrev pub StringsAreBytes : Program → Type 0
StringsAreBytes p = AllByRecursion AreBytes p.strings
