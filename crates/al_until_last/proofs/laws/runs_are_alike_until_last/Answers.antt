use Rattle.al_until_last.proofs.Lifting.{lifting_from_start}
use Rattle.al_until_last.proofs.laws.runs_are_alike_until_last.Goals as goal

pub returns : goal.returns
returns g c = lifting_from_start _ _ g.K.MatchesUntilLast.relation g.met.K.MatchesUntilLast.alike
