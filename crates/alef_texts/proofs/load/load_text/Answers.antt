use Rattle.std.proofs.Common.{◌∙◌}
use Rattle.alef_texts.proofs.Loading.{text_loaded, found_there}
use Rattle.alef_texts.proofs.Schedules.{kept_texts}
use Rattle.alef_texts.proofs.load.load_text.Goals as goal

pub returns-clause-read : goal.returns-clause-read
returns-clause-read g c = record {
  whole = λ text is. (text_loaded _ _ _ _ _ _ _ c.new-bytes.ensures.items c.in-Ok.ensures.found c.in_ok-read_on.ensures.read text is).1;
  found = found_there _ _ _ c.in-Ok.ensures.found;
  calm = c.in_ok-read_on.ensures.calm ∙ c.in-Ok.ensures.count.ok;
}

pub returns-clause-text : goal.returns-clause-text
returns-clause-text g c = λ text is. (text_loaded _ _ _ _ _ _ _ c.new-bytes.ensures.items c.in-Ok.ensures.found c.in_ok-read_on.ensures.read text is).0

pub returns-clause-same : goal.returns-clause-same
returns-clause-same g c = kept_texts _ _ _ _ _ _ _ c.in-Ok.ensures.found c.in_ok-read_on.ensures.read
