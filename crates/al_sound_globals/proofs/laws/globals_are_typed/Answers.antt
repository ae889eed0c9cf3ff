use Rattle.al_sound_globals.proofs.GlobalsAre.{globals_are_typed}
use Rattle.al_sound_globals.proofs.laws.globals_are_typed.Goals as goal

pub returns : goal.returns
returns c = globals_are_typed
