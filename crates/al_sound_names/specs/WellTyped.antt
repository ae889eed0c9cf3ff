-- The program of a text that is accepted is well typed with its names.
use Rattle.std.specs.Prelude.{ℕ, List}
use Rattle.al_typed.specs.declared.program.Program.{Program}
use Rattle.al_typed.specs.WellTyped.{IsWellTyped}
use Rattle.al_front.specs.Accepted.{IsAccepted}

abbrev pub AcceptedAreWellTyped : Type 0
AcceptedAreWellTyped = (text : List ℕ) (p : Program) → IsAccepted text p → IsWellTyped p
