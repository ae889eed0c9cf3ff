use Rattle.al_show.proofs.Room.{none_is_too_large}
use Rattle.al_show.proofs.laws.runs_have_room.Goals as goal

pub returns : goal.returns
returns c = none_is_too_large
