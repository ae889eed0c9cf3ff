use Rattle.al_short_programs.proofs.ProgramsAre.{strings_are_bytes}
use Rattle.al_short_programs.proofs.laws.strings_are_bytes.Goals as goal

pub returns : goal.returns
returns c = strings_are_bytes
