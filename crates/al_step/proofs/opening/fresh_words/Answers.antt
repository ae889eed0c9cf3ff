use Rattle.std.proofs.Common.{◌∙◌, List, Err, ap}
use Rattle.std.proofs.lemmas.Result.{err_from_is_err_and}
use Rattle.std.specs.List.{sum_by}
use Rattle.al_typed.specs.Capped.{capped}
use Rattle.al_typed.specs.declared.program.Global.{Global}
use Rattle.al_meaning.specs.Places.{private_words_of}
use Rattle.al_step.specs.Sources.{PrivatesFit}
use Rattle.al_step.proofs.Openings.{fresh_are}
use Rattle.al_step.proofs.Whys.{why_else}
use Rattle.al_step.proofs.opening.fresh_words.Goals as goal

pub returns-clause-words : goal.returns-clause-words
returns-clause-words c =
    fresh_are c.args.p.now c.in_ok-words.words (c.in_ok-words.ensures.words _ (c.words_of_globals-count.ensures ∙ ap (λ (gs : List Global). capped (sum_by (private_words_of c.args.p.now) gs)) c.as_slice-globals.ensures.value))

pub returns-in_err-words-clause-why : goal.returns-in_err-words-clause-why
returns-in_err-words-clause-why c =
    let p = err_from_is_err_and c.from_residual.result c.from_residual.ensures.1 in
    why_else c.from_residual.result c.in_err-words.field-0.0 _ (PrivatesFit c.args.p.now)
    (p.1 ∙ ap Err p.2) (λ fits. fits) (c.in_err-words.ensures.why _ (c.words_of_globals-count.ensures ∙ ap (λ (gs : List Global). capped (sum_by (private_words_of c.args.p.now) gs)) c.as_slice-globals.ensures.value))
