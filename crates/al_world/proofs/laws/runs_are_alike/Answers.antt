use Rattle.al_world.proofs.Lift.{lifting_from_start}
use Rattle.al_world.proofs.laws.runs_are_alike.Goals as goal

pub returns : goal.returns
returns g c = lifting_from_start _ _ g.K.Matches.relation g.met.K.Matches.alike
