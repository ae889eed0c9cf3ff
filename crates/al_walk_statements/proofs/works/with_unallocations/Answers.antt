use Rattle.std.proofs.Common.{◌∙◌, sym}
use Rattle.al_meaning.specs.Execute.{unallocation_work}
use Rattle.al_control.specs.Models.{here_of}
use Rattle.al_walk_loops.proofs.WorkLists.{put_all_more, put_all_over}
use Rattle.al_walk_statements.proofs.works.with_unallocations.Goals as goal

pub loop-e-preserved : goal.loop-e-preserved
loop-e-preserved c =
    c.loop-e.invariant
    ∙ put_all_more unallocation_work c.loop-e.rest.now _ _ (here_of c.loop-e.h) (here_of c.in_ok-h.h) c.in-Some.ensures.cases c.in_ok-h.ensures

pub returns : goal.returns
returns c = sym (c.loop-e.invariant ∙ put_all_over unallocation_work c.loop-e.rest.now (here_of c.loop-e.h) c.in_default.ensures.cases)
