-- The string constants of programs are of bytes where their texts are.
use Rattle.std.specs.Prelude.{ℕ, ◌<◌, List}
use Rattle.std.specs.List.{AllByRecursion}
use Rattle.al_typed.specs.declared.program.Program.{Program}
use Rattle.al_front.specs.Accepted.{IsAccepted}

abbrev pub AreBytes : List ℕ → Type 0
AreBytes bytes = AllByRecursion (λ b. b < 256) bytes

abbrev pub StringsOfBytes : Type 0
StringsOfBytes = (text : List ℕ) (p : Program) → IsAccepted text p → AreBytes text → AllByRecursion AreBytes p.strings
