use Rattle.std.proofs.Common.{◌∙◌, List, sym, refl, ap, length}
use Rattle.al_control.specs.Models.{here_of, work_of}
use Rattle.al_control.specs.declared.work.Work.{Work}
use Rattle.al_walk_places.proofs.WorkLists.{put_more, put_over}
use Rattle.al_walk_places.proofs.targets.with_works.Goals as goal

pub loop-work-preserved : goal.loop-work-preserved
loop-work-preserved c =
    c.loop-work.invariant
    ∙ put_more work_of c.loop-work.rest _ _ _ (here_of c.loop-work.h) (here_of c.in_ok-h.h) c.in-Some.ensures
    refl c.in_ok-h.ensures

pub returns : goal.returns
returns c =
    sym (c.loop-work.invariant ∙ put_over work_of c.loop-work.rest (here_of c.loop-work.h) (ap (λ (ws : List Work). length ws) c.in_default.ensures.0))
