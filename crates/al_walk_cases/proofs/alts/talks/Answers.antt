use Rattle.std.proofs.Common.{◌∙◌, List, [], ◌∷◌, ap₂}
use Rattle.al_event.specs.declared.act.Act.TheVariants as act
use Rattle.al_event.specs.declared.act.Branch.{Branch}
use Rattle.al_meaning.specs.Here.{asks}
use Rattle.al_meaning.specs.Items.{Work}
use Rattle.al_control.specs.Models.{here_of}
use Rattle.al_walk_cases.proofs.alts.talks.Goals as goal

pub returns-clause-next : goal.returns-clause-next
returns-clause-next c =
    c.in_ok-asks.ensures
    ∙ ap₂ (λ (bs : List Branch) (w : Work). asks (here_of c.args.h) (act.Talk bs) (w ∷ [])) c.in_ok-branches.ensures.branches c.in_ok-went.ensures
