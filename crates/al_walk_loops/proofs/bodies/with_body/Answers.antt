use Rattle.al_walk_loops.specs.BodyParts.{statements_in}
use Rattle.al_walk_loops.proofs.Goings.{items_put}
use Rattle.al_walk_loops.proofs.bodies.with_body.Goals as goal

pub returns : goal.returns
returns c = items_put c.args.h c.put_statements.new.items (statements_in c.args.body.now) c.in_ok-put_statements.ensures
