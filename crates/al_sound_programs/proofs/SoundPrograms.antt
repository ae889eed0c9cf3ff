-- The program of a text that the typing rules accept has sound types.
use Rattle.al_sound_environment.proofs.TellsAre.{environment_tells}
use Rattle.al_sound_environment.proofs.WholeIs.{environment_is_sound}
use Rattle.al_sound_expressions.proofs.TreesAre.{expressions_are_sound}
use Rattle.al_sound_statements.proofs.StatementsAre.{bodies_are_sound}
use Rattle.al_sound_statements.proofs.TypesGathered.{types_are_gathered}
use Rattle.al_sound_programs.specs.Programs.{ProgramsAreSound}
use Rattle.al_sound_programs.proofs.ProgramsAre.{programs_are}
use Rattle.al_sound_programs.proofs.ValuesAre.{values_typed}

pub programs_are_sound : ProgramsAreSound
programs_are_sound = programs_are (record {
  environment = environment_is_sound;
  tells = environment_tells;
  bodies = bodies_are_sound;
  gathered = types_are_gathered;
  values = values_typed expressions_are_sound;
})
