use Rattle.al_control.specs.Models.{here_of}
use Rattle.al_walk_loops.specs.BodyParts.{statements_in}
use Rattle.al_walk_cases.proofs.Branches.{body_put}
use Rattle.al_walk_cases.proofs.alts.with_case_body.Goals as goal

pub returns : goal.returns
returns c =
    body_put c.with_body.result (statements_in c.args.body.now) (here_of c.in_ok-h.h) (here_of c.args.h) c.in_ok-h.ensures c.with_body.ensures
