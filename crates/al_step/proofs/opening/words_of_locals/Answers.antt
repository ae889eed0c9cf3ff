use Rattle.al_step.proofs.Openings.{local_words, one_more, all_locals}
use Rattle.al_step.proofs.opening.words_of_locals.Goals as goal

pub loop-local-preserved : goal.loop-local-preserved
loop-local-preserved c =
    one_more (local_words c.args.rows.now) c.args.locals.now c.loop-local.local-index c.local-item.result c.loop-local.sum c.words_in-words.result _ c.loop-local-test.true c.local-item.is c.loop-local.invariant c.words_in-words.ensures c.saturating_add-sum.ensures

pub returns : goal.returns
returns c = all_locals c.args.rows.now c.args.locals.now c.loop-local.local-index c.loop-local.sum c.loop-local-test.false c.loop-local.invariant
