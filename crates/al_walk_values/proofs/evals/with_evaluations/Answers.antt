use Rattle.std.proofs.Common.{◌∙◌, sym}
use Rattle.al_meaning.specs.Items as item
use Rattle.al_control.specs.Models.{here_of}
use Rattle.al_walk_values.proofs.WorkLists.{put_more, put_over}
use Rattle.al_walk_values.proofs.evals.with_evaluations.Goals as goal

pub loop-e-preserved : goal.loop-e-preserved
loop-e-preserved c =
    c.loop-e.invariant
    ∙ put_more item.Eval c.loop-e.rest.now _ _ _ (here_of c.loop-e.h) (here_of c.in_ok-h.h) c.in-Some.ensures.cases.0
    c.evaluation.ensures c.in_ok-h.ensures

pub returns : goal.returns
returns c = sym (c.loop-e.invariant ∙ put_over item.Eval c.loop-e.rest.now (here_of c.loop-e.h) c.in_default.ensures.cases)
