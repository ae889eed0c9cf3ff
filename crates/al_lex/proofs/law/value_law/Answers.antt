use Rattle.al_lex.proofs.TokenValues.{token_values}
use Rattle.al_lex.proofs.law.value_law.Goals as goal

pub returns : goal.returns
returns c = token_values
