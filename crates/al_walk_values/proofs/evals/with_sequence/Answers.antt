use Rattle.std.proofs.Common.{[], ◌∷◌, ◌∙◌, ap}
use Rattle.std.specs.List.{flat_map}
use Rattle.al_meaning.specs.Evaluate.{and_dropped}
use Rattle.al_meaning.specs.Here as step
use Rattle.al_meaning.specs.Items as item
use Rattle.al_control.specs.Models.{here_of}
use Rattle.al_walk_values.proofs.WorkLists.{put_before}
use Rattle.al_walk_values.proofs.evals.with_sequence.Goals as goal

pub returns : goal.returns
returns c =
    put_before c.with_all_dropped.result (flat_map and_dropped c.args.first.now) (item.Eval c.args.last.now ∷ []) (here_of c.args.h) (here_of c.in_ok-h.h)
    (c.in_ok-h.ensures ∙ ap (λ (w : item.Work). step.with_work (w ∷ []) (here_of c.args.h)) c.evaluation.ensures) c.with_all_dropped.ensures
