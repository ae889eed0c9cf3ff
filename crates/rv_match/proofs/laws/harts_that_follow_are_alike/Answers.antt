use Rattle.rv_match.proofs.Simulating.{simulates}
use Rattle.rv_match.proofs.laws.harts_that_follow_are_alike.Goals as goal

pub returns : goal.returns
returns g c = λ s known. simulates _ _ _ g.F.FollowsOperations.followed s known
