use Rattle.std.proofs.Common.{◌∙◌, get_or}
use Rattle.al_typed.specs.Measures.{branch_pieces}
use Rattle.al_typed.proofs.Steps.{tallied-nil, tallied_more, counted_one, number_at}
use Rattle.al_typed.proofs.count_statement.branches.Goals as goal

pub loop-number-init : goal.loop-number-init
loop-number-init c = tallied-nil c.args.p.now c.args.tally.now

pub loop-number-preserved : goal.loop-number-preserved
loop-number-preserved c =
    tallied_more c.args.p.now c.args.tally.now c.loop-number.tally c.par_branch.new.tally branch_pieces c.args.numbers.now c.loop-number.number-index
    (get_or c.args.numbers.now c.loop-number.number-index 0) c.loop-number-test.true
    (number_at c.args.numbers.now c.loop-number.number-index 0 c.loop-number-test.true) c.loop-number.invariant
    (c.par_branch.ensures ∙ counted_one c.args.p.now c.loop-number.tally _)
