use Rattle.al_control.specs.Models.{here_of}
use Rattle.al_walk_places.proofs.TargetPlaces.{parts_aimed}
use Rattle.al_walk_places.proofs.targets.aim.Goals as goal

pub returns-in_ok-with_parts-in-Parts : goal.returns-in_ok-with_parts-in-Parts
returns-in_ok-with_parts-in-Parts c =
    parts_aimed c.moves.result c.args.target.now c.in-Parts.ty c.in-Parts.parts c.as_slice.result.now (here_of c.args.h) _ c.in-Parts.is c.as_slice.ensures.value
    c.in_ok-with_parts-in-Parts.ensures c.moves.ensures
