use Rattle.std.proofs.Common.{◌∙◌, sym}
use Rattle.al_control.specs.Models.{here_of}
use Rattle.al_walk_statements.proofs.PutBounds.{bounds_more, bounds_past}
use Rattle.al_walk_statements.proofs.works.with_bounds.Goals as goal

pub loop-bounds-preserved : goal.loop-bounds-preserved
loop-bounds-preserved c =
    c.loop-bounds.invariant
    ∙ bounds_more c.loop-bounds.rest.now _ _ (here_of c.loop-bounds.h) (here_of c.in_ok-h.h) c.in-Some.ensures.cases c.in_ok-h.ensures

pub returns : goal.returns
returns c = sym (c.loop-bounds.invariant ∙ bounds_past c.loop-bounds.rest.now (here_of c.loop-bounds.h) c.in_default.ensures.cases)
