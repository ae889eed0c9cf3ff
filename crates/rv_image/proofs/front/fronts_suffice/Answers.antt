use Rattle.rv_image.proofs.Fronts.{suffices}
use Rattle.rv_image.proofs.front.fronts_suffice.Goals as goal

pub returns : goal.returns
returns c = λ text. suffices text
