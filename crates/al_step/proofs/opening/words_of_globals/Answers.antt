use Rattle.al_meaning.specs.Places.{private_words_of}
use Rattle.al_step.proofs.Openings.{one_more, all_summed}
use Rattle.al_step.proofs.opening.words_of_globals.Goals as goal

pub loop-global-preserved : goal.loop-global-preserved
loop-global-preserved c =
    one_more (private_words_of c.args.p.now) c.args.globals.now c.loop-global.global-index c.global-item.result c.loop-global.sum c.words_of_global-words.result _ c.loop-global-test.true c.global-item.is c.loop-global.invariant c.words_of_global-words.ensures c.saturating_add-sum.ensures

pub returns : goal.returns
returns c = all_summed (private_words_of c.args.p.now) c.args.globals.now c.loop-global.global-index c.loop-global.sum c.loop-global-test.false c.loop-global.invariant
