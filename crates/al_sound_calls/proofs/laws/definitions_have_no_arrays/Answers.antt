use Rattle.al_sound_calls.proofs.NoArraysAre.{no_arrays_are}
use Rattle.al_sound_calls.proofs.laws.definitions_have_no_arrays.Goals as goal

pub returns : goal.returns
returns c = no_arrays_are
