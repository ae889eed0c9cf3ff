use Rattle.std.proofs.Common.{◌∙◌, sym}
use Rattle.al_meaning.specs.Execute.{initializer_work}
use Rattle.al_control.specs.Models.{here_of}
use Rattle.al_walk_loops.proofs.WorkLists.{put_all_more, put_all_over}
use Rattle.al_walk_statements.proofs.works.with_initializers.Goals as goal

pub loop-initializer-preserved : goal.loop-initializer-preserved
loop-initializer-preserved c =
    c.loop-initializer.invariant
    ∙ put_all_more initializer_work c.loop-initializer.rest.now _ _ (here_of c.loop-initializer.h) (here_of c.in_ok-h.h) c.in-Some.ensures.cases c.in_ok-h.ensures

pub returns : goal.returns
returns c = sym (c.loop-initializer.invariant ∙ put_all_over initializer_work c.loop-initializer.rest.now (here_of c.loop-initializer.h) c.in_default.ensures.cases)
