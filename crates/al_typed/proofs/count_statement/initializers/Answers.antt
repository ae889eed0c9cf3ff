use Rattle.al_typed.specs.Measures.{initializer_pieces}
use Rattle.al_typed.proofs.Steps.{tallied-nil, tallied_more}
use Rattle.al_typed.proofs.count_statement.initializers.Goals as goal

pub loop-initializer-init : goal.loop-initializer-init
loop-initializer-init c = tallied-nil c.args.p.now c.args.tally.now

pub loop-initializer-preserved : goal.loop-initializer-preserved
loop-initializer-preserved c =
    tallied_more c.args.p.now c.args.tally.now c.loop-initializer.tally c.initialized.new.tally initializer_pieces c.args.list.now c.loop-initializer.initializer-index
    c.initializer-item.result c.loop-initializer-test.true c.initializer-item.is c.loop-initializer.invariant c.initialized.ensures
