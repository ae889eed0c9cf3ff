use Rattle.al_link_laws.proofs.Own.{own_text}
use Rattle.al_link_laws.proofs.law.own_text_law.Goals as goal

pub returns : goal.returns
returns c = own_text
