use Rattle.al_sound_calls.proofs.MethodsLead.{methods_lead}
use Rattle.al_sound_calls.proofs.laws.methods_lead.Goals as goal

pub returns : goal.returns
returns c = methods_lead
