use Rattle.std.proofs.Common.{rules, ◌∙◌, arith}
use Rattle.al_lower_base.proofs.Unconverted.{none_from, none_into, one_changes, one_stays}
use Rattle.al_lower_base.proofs.conversions.+stays.Goals as goal

pub parts_stay-returns-then-i-into : goal.parts_stay-returns-then-i-into
parts_stay-returns-then-i-into t c =
    none_into c.args.from.now c.args.into.now c.loop-i.i (omega (arith, c.if-i-into.true)) ∙ c.loop-i.invariant

pub parts_stay-returns-then-not-stays : goal.parts_stay-returns-then-not-stays
parts_stay-returns-then-not-stays t c =
    one_changes c.args.from.now c.args.into.now c.loop-i.i c.index-from-i.result c.index-into-i.result c.loop-i-test.true c.index-from-i.is
    (omega (arith, c.if-i-into.false)) c.index-into-i.is (search rules) ∙ c.loop-i.invariant

pub parts_stay-loop-i-preserved : goal.parts_stay-loop-i-preserved
parts_stay-loop-i-preserved t c =
    one_stays c.args.from.now c.args.into.now c.loop-i.i c.index-from-i.result c.index-into-i.result c.loop-i-test.true c.index-from-i.is
    (omega (arith, c.if-i-into.false)) c.index-into-i.is (search rules) ∙ c.loop-i.invariant

pub parts_stay-returns : goal.parts_stay-returns
parts_stay-returns t c =
    none_from c.args.from.now c.args.into.now c.loop-i.i (omega (arith, c.loop-i-test.false)) ∙ c.loop-i.invariant
