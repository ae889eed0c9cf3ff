use Rattle.al_typed.specs.Measures.{statement_pieces}
use Rattle.al_typed.proofs.Steps.{tallied-nil, tallied_more}
use Rattle.al_typed.proofs.count_statement.+count_statement.Goals as goal

pub statements-loop-s-init : goal.statements-loop-s-init
statements-loop-s-init t c = tallied-nil c.args.p.now c.args.tally.now

pub statements-loop-s-preserved : goal.statements-loop-s-preserved
statements-loop-s-preserved t c =
    tallied_more c.args.p.now c.args.tally.now c.loop-s.tally c.statement.new.tally statement_pieces c.args.row.now c.loop-s.s-index
    c.s-item.result c.loop-s-test.true c.s-item.is c.loop-s.invariant c.statement.ensures
