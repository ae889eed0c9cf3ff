use Rattle.std.proofs.Common.{◌∙◌, sym, refl}
use Rattle.al_meaning.specs.Items as item
use Rattle.al_control.specs.Models.{here_of}
use Rattle.al_walk_places.proofs.WorkLists.{put_more, put_over}
use Rattle.al_walk_places.proofs.targets.with_parts.Goals as goal

pub loop-part-preserved : goal.loop-part-preserved
loop-part-preserved c =
    c.loop-part.invariant
    ∙ put_more item.Aim c.loop-part.rest.now _ _ _ (here_of c.loop-part.h) (here_of c.in_ok-h.h)
    c.in-Some.ensures.cases.0 refl c.in_ok-h.ensures

pub returns : goal.returns
returns c = sym (c.loop-part.invariant ∙ put_over item.Aim c.loop-part.rest.now (here_of c.loop-part.h) c.in_default.ensures.cases)
