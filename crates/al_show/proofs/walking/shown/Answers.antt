use Rattle.al_show.proofs.Walked.{text_shown}
use Rattle.al_show.proofs.walking.shown.Goals as goal

pub returns-clause-shown : goal.returns-clause-shown
returns-clause-shown c =
    text_shown c.args.p.now c.args.region c.args.entries.now c.in-Ok.source c.in_ok-text.text c.in-Ok.ensures.stands c.in-Ok.ensures.entries c.in_ok-text.ensures
