use Rattle.al_control.specs.Models.{action_of, here_of}
use Rattle.al_walk_actions.specs.Fits.{ActionFits}
use Rattle.al_walk.specs.Works.{WorkFits}
use Rattle.al_walk.proofs.Needs.{action_fits}
use Rattle.al_walk.proofs.Whys.{explains}
use Rattle.al_walk.proofs.works.step_action.Goals as goal

pub returns-clause-why : goal.returns-clause-why
returns-clause-why c =
    explains c.act.result (ActionFits (here_of c.args.h) c.args.action) (WorkFits (here_of c.args.h) (action_of c.args.action)) (action_fits (here_of c.args.h) c.args.action) c.act.ensures.why
