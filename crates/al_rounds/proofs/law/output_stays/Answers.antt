use Rattle.al_rounds.proofs.Output.{puts_out_more}
use Rattle.al_rounds.proofs.law.output_stays.Goals as goal

pub returns : goal.returns
returns c = λ h more is. puts_out_more h more is
