use Rattle.al_sound_rows.proofs.RowsAre.{rows_are_units}
use Rattle.al_sound_rows.proofs.laws.rows_are_units.Goals as goal

pub returns : goal.returns
returns c = rows_are_units
