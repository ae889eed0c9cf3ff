-- The program of a text that is accepted has sound types, and is short.
use Rattle.std.specs.Prelude.{ℕ, List}
use Rattle.al_typed.specs.declared.program.Program.{Program}
use Rattle.al_typed.specs.Sound.{HasSoundTypes, IsShort}
use Rattle.al_front.specs.Accepted.{IsAccepted}

abbrev pub AcceptedAreSound : Type 0
AcceptedAreSound = (text : List ℕ) (p : Program) → IsAccepted text p → HasSoundTypes p × IsShort p
