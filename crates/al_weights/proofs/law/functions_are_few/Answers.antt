use Rattle.al_weights.proofs.Weights.{few_functions}
use Rattle.al_weights.proofs.law.functions_are_few.Goals as goal

pub returns : goal.returns
returns c = λ p M W. few_functions p M W
