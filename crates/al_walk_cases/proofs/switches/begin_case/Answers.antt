use Rattle.al_walk_loops.specs.BodyParts.{statements_in}
use Rattle.al_walk_loops.proofs.Goings.{goes_chosen}
use Rattle.al_walk_cases.proofs.switches.begin_case.Goals as goal

pub returns : goal.returns
returns c =
    goes_chosen c.moves.result (statements_in c.args.rest.now) c.args.h c.in_ok-h.h c.in_ok-with_body.field-0 c.in_ok-h.ensures c.in_ok-with_body.ensures
    c.moves.ensures
