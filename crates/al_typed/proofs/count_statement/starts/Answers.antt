use Rattle.al_typed.specs.Measures.{start_pieces}
use Rattle.al_typed.proofs.Steps.{tallied-nil, tallied_more}
use Rattle.al_typed.proofs.count_statement.starts.Goals as goal

pub loop-call-init : goal.loop-call-init
loop-call-init c = tallied-nil c.args.p.now c.args.tally.now

pub loop-call-preserved : goal.loop-call-preserved
loop-call-preserved c =
    tallied_more c.args.p.now c.args.tally.now c.loop-call.tally c.start.new.tally start_pieces c.args.calls.now c.loop-call.call-index
    c.call-item.result c.loop-call-test.true c.call-item.is c.loop-call.invariant c.start.ensures
