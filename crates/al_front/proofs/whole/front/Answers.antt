use Rattle.std.proofs.Common.{Err, ap, ◌∙◌}
use Rattle.std.proofs.lemmas.Result.{err_from_is_err_and}
use Rattle.al_front.proofs.Programs.{made_stops, made_is}
use Rattle.al_front.proofs.whole.front.Goals as goal

pub returns-in_err-tree-clause-made : goal.returns-in_err-tree-clause-made
returns-in_err-tree-clause-made c =
    let p = err_from_is_err_and c.from_residual.result c.from_residual.ensures.1 in
    made_stops c.args.text.now c.from_residual.result _ (p.1 ∙ ap Err p.2) c.in_err-tree.ensures.whole

pub returns-clause-made : goal.returns-clause-made
returns-clause-made c = made_is c.args.text.now c.program_of.result c.in_ok-tree.tree c.program_of.ensures.answer c.in_ok-tree.ensures.whole
