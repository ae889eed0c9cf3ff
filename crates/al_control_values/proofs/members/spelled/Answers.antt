use Rattle.al_control_values.proofs.Fitted.{unit_spelled, all_spelled}
use Rattle.al_control_values.proofs.members.spelled.Goals as goal

pub loop-unit-preserved : goal.loop-unit-preserved
loop-unit-preserved c =
    unit_spelled c.args.units.now c.loop-unit.unit-index _ c.loop-unit.rest.now c.split_word-cut.result.1.now c.loop-unit.bytes c.in_ok-bytes.bytes _
    c.loop-unit-test.true (rw c.as_slice.ensures.value at (rw c.split_word-cut.ensures.word at c.in_ok-bytes.ensures)) c.split_word-cut.ensures.rest c.loop-unit.invariant

pub returns : goal.returns
returns c = all_spelled c.args.units.now c.loop-unit.unit-index c.loop-unit.rest.now c.loop-unit.bytes _ c.loop-unit-test.false c.loop-unit.invariant
