-- A program within the limits has few functions: each weighs something.
use Rattle.std.specs.Prelude.{◌≤◌, length}
use Rattle.al_typed.specs.declared.program.Program.{Program}
use Rattle.al_typed.specs.Measures.{IsWithin}
use Rattle.al_typed.specs.Sound.{HasSoundTypes}

abbrev pub FunctionsAreFew : Type 0
FunctionsAreFew = (p : Program) → IsWithin p → HasSoundTypes p → length p.functions ≤ 65536
