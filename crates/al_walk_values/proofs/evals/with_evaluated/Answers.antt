use Rattle.std.proofs.Common.{[], ◌∷◌}
use Rattle.al_meaning.specs.Calls.{evaluated}
use Rattle.al_control.specs.Models.{here_of, work_of}
use Rattle.al_walk_values.proofs.WorkLists.{put_before}
use Rattle.al_walk_values.proofs.evals.with_evaluated.Goals as goal

pub returns : goal.returns
returns c =
    put_before c.with_evaluations.result (evaluated c.args.es.now) (work_of c.args.work ∷ []) (here_of c.args.h) (here_of c.in_ok-h.h) c.in_ok-h.ensures
    c.with_evaluations.ensures
