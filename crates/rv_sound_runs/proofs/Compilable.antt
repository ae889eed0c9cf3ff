-- The program of an accepted text can be compiled.
use Rattle.std.proofs.Common.{ℕ, List}
use Rattle.al_typed.specs.declared.program.Program.{Program}
use Rattle.al_front.specs.Accepted.{IsAccepted}
use Rattle.al_sound_texts.proofs.Texts.{accepted_is_sound}
use Rattle.al_sound_names.proofs.ProgramsAre.{accepted_are_well_typed}
use Rattle.rv_meant.specs.Meant.{IsCompilable}

pub compilable : (text : List ℕ) (p : Program) → IsAccepted text p → IsCompilable p
compilable text p accepted = record { well_typed = accepted_are_well_typed text p accepted; sound = (accepted_is_sound text p accepted).0 }
