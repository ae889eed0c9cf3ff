use Rattle.al_typed.specs.Measures.{bounds_pieces}
use Rattle.al_typed.proofs.Steps.{tallied-nil, tallied_more}
use Rattle.al_typed.proofs.count_statement.bounds.Goals as goal

pub loop-iterator-init : goal.loop-iterator-init
loop-iterator-init c = tallied-nil c.args.p.now c.args.tally.now

pub loop-iterator-preserved : goal.loop-iterator-preserved
loop-iterator-preserved c =
    tallied_more c.args.p.now c.args.tally.now c.loop-iterator.tally c.bound.new.tally bounds_pieces c.args.iterators.now c.loop-iterator.iterator-index
    c.iterator-item.result c.loop-iterator-test.true c.iterator-item.is c.loop-iterator.invariant c.bound.ensures
