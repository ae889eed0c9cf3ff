use Rattle.std.proofs.Common.{◌∙◌, Err, ap}
use Rattle.std.proofs.lemmas.Result.{err_from_is_err_and}
use Rattle.al_step.specs.Sources.{MainFits}
use Rattle.al_step.proofs.Whys.{why_else}
use Rattle.al_step.proofs.Openings.{main_is}
use Rattle.al_step.proofs.opening.main_start.Goals as goal

pub returns-clause-start : goal.returns-clause-start
returns-clause-start c = main_is c.args.p.now c.in_ok-words.words (c.in_ok-words.ensures.words _ c.words_of_main-count.ensures)

pub returns-in_err-words-clause-why : goal.returns-in_err-words-clause-why
returns-in_err-words-clause-why c =
    let p = err_from_is_err_and c.from_residual.result c.from_residual.ensures.1 in
    why_else c.from_residual.result c.in_err-words.field-0.0 _ (MainFits c.args.p.now)
    (p.1 ∙ ap Err p.2) (λ fits. fits) (c.in_err-words.ensures.why _ c.words_of_main-count.ensures)
