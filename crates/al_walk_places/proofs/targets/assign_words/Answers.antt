use Rattle.al_control.specs.Models.{here_of}
use Rattle.al_meaning.specs.Evaluate.{leaves_of}
use Rattle.al_walk_places.proofs.Savings.{assigned}
use Rattle.al_walk_places.proofs.targets.assign_words.Goals as goal

pub returns : goal.returns
returns c =
    assigned c.assign_parts.result c.in_ok-types.types c.as_slice.result.now (leaves_of c.args.target.now) c.args.words (here_of c.args.h) c.as_slice.ensures.value
    c.in_ok-types.ensures c.assign_parts.ensures
