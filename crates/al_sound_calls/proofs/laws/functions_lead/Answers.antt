use Rattle.al_sound_calls.proofs.FunctionsLead.{functions_lead}
use Rattle.al_sound_calls.proofs.laws.functions_lead.Goals as goal

pub returns : goal.returns
returns c = functions_lead
