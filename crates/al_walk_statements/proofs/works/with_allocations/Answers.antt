use Rattle.std.proofs.Common.{◌∙◌, sym}
use Rattle.al_meaning.specs.Execute.{allocation_work}
use Rattle.al_control.specs.Models.{here_of}
use Rattle.al_walk_loops.proofs.WorkLists.{put_all_more, put_all_over}
use Rattle.al_walk_statements.proofs.works.with_allocations.Goals as goal

pub loop-place-preserved : goal.loop-place-preserved
loop-place-preserved c =
    c.loop-place.invariant
    ∙ put_all_more allocation_work c.loop-place.rest.now _ _ (here_of c.loop-place.h) (here_of c.in_ok-h.h) c.in-Some.ensures.cases c.in_ok-h.ensures

pub returns : goal.returns
returns c = sym (c.loop-place.invariant ∙ put_all_over allocation_work c.loop-place.rest.now (here_of c.loop-place.h) c.in_default.ensures.cases)
