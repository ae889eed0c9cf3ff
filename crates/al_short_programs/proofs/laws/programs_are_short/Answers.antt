use Rattle.al_short_programs.proofs.ProgramsAre.{programs_are_short}
use Rattle.al_short_programs.proofs.laws.programs_are_short.Goals as goal

pub returns : goal.returns
returns c = programs_are_short
