use Rattle.al_world.proofs.Fits.{answers_fit}
use Rattle.al_world.proofs.laws.answers_fit_their_actions.Goals as goal

pub returns : goal.returns
returns g c = answers_fit _ g.K.Proper.propriety
